-- The texts of terms that are found in several ways.
use Rattle.std.proofs.Common.{Bool, true, false, cond, List, [], ◌∷◌, find, Option, Some, None}
use Rattle.std.proofs.Common.{IfSome, option_map}
use Rattle.std.specs.List.{AllByRecursion}
use Rattle.std.specs.Option.{option_or}
use Rattle.nj_syntax.specs.Readable.{IsReadable}
use Rattle.theory_ctx.specs.declared.local.Local.{Local}
use Rattle.proof_terms.specs.declared.term.Term.{Term}
use Rattle.suggest_rules.specs.Search as S
use Rattle.suggest_rules.specs.Search.{if_so, citing, first_of, found_by, found_within, suggested}
use Rattle.editor_laws.proofs.PlainTexts.{Plain}
use Rattle.editor_laws.proofs.TermTexts.{TextPlain, text_fact}

-- a local fact of a plain name, whose formula is read again
abbrev pub LocalSaid : Local → Type 0
LocalSaid local = Plain local.name × IsReadable local.formula

abbrev pub LocalsSaid : List Local → Type 0
LocalsSaid = AllByRecursion LocalSaid

-- what is found has a plain text
pub record Goes (o : Option Term) : Type 0 where
  pub text : IfSome o TextPlain

pub nothing : Goes None
nothing = record { text = tt }

pub just : {t : Term} → TextPlain t → Goes (Some t)
just plain = record { text = plain }

pub goes_if : (b : Bool) {o : Option Term} → Goes o → Goes (if_so b o)
goes_if true is = is
goes_if false is = nothing

pub goes_or : {o p : Option Term} → Goes o → Goes p → Goes (option_or o p)
goes_or {o = None} is more = more
goes_or {o = Some t} is more = is

pub goes_map : (make : Term → Term) {o : Option Term}
    → ((t : Term) → TextPlain t → TextPlain (make t)) → Goes o → Goes (option_map make o)
goes_map make {o = None} each is = nothing
goes_map make {o = Some t} each is = just (each t is.text)

pub goes_both : (make : Term → Term → Term) {o p : Option Term}
    → ((t u : Term) → TextPlain t → TextPlain u → TextPlain (make t u)) → Goes o → Goes p
    → Goes (S.both make o p)
goes_both make {o = None} each is more = nothing
goes_both make {o = Some t} {p = None} each is more = nothing
goes_both make {o = Some t} {p = Some u} each is more = just (each t u is.text more.text)

pub cited_plain : (local : Local) → LocalSaid local → TextPlain (citing local)
cited_plain local said = text_fact _ said.0

pub goes_cited : (test : Local → Bool) (facts : List Local) → LocalsSaid facts
    → Goes (option_map citing (find test facts))
goes_cited test [] said = nothing
goes_cited test (local ∷ facts) said = go (test local) (goes_cited test facts said.1)
  where
    go : (b : Bool) → Goes (option_map citing (find test facts))
        → Goes (option_map citing (cond b (Some local) (find test facts)))
    go true more = just (cited_plain local said.0)
    go false more = more

pub goes_first : (try : Local → Option Term)
    → ((local : Local) → LocalSaid local → Goes (try local)) → (facts : List Local)
    → LocalsSaid facts → Goes (first_of try facts)
goes_first try each [] said = nothing
goes_first try each (local ∷ facts) said =
    goes_or (each local said.0) (goes_first try each facts said.1)
