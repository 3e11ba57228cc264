-- Arguments tell what is read of them.
use Rattle.std.proofs.Common.{◌≡◌, ◌↔◌, ℕ, ◌&&◌, ◌==◌, nat_le, true, false, Bool, if◌then◌else◌, List, Option, Some, None, Result, Ok, Err, decimal, refl, ap, subst, ◌∙◌, lit<, arith}
use Rattle.std.specs.List.{AllByRecursion}
use Rattle.std.proofs.lemmas.Bool.{eqb-true, leb-true, le-leb, and_parts, and_from}
use Rattle.yxml.specs.declared.tree.Tree.{Tree}
use Rattle.yxml.specs.declared.fault.YxmlFault.{YxmlFault}
use Rattle.yxml.specs.Answer.{body_in}
use Rattle.yxml.specs.Spelling.{Spells}
use Rattle.pide_base.specs.Ids.{IsId}
use Rattle.message_values.specs.Each.{◌>>=◌}
use Rattle.message_values.specs.Numbers.{number_of}
use Rattle.message_values.specs.Shapes.{items_in}
use Rattle.message_values.specs.Words.{id_of}
use Rattle.message_values.proofs.KnownItems.{items_found, items_find}
use Rattle.message_values.proofs.KnownNumbers.{number_sound, number_complete}
use Rattle.message_values.proofs.KnownSteps.{stepped, tested, passed}
use Rattle.message_values.proofs.KnownWords.{id_sound, id_complete}
use Rattle.message_values.specs.declared.protocol.Protocol.{Protocol}
use Rattle.message_values.specs.declared.protocol.Protocol.TheVariants.{Scalars, Symbols}
use Rattle.message_values.specs.Asked.{faultless, spelled, is_there, id_at}
use Rattle.message_values.specs.Protocols.{protocol_number, protocol_of}
use Rattle.message_values.specs.Spelled.{list_of, Tells}
use Rattle.message_values.specs.Workers.{IsWorker, most_workers, worker_of}

-- a text spells what is read of it, and nothing else
abbrev pub OneAnswer : Type 0
OneAnswer = (text : List ℕ) (body : List Tree) → (body_in text ≡ Ok body) ↔ (Spells text body)

spelled_sound : OneAnswer → (text : List ℕ) (body : List Tree) → spelled text ≡ Some body → Spells text body
spelled_sound one text body e = go (body_in text) refl e where
  go : (r : Result (List Tree) YxmlFault) → body_in text ≡ r → faultless r ≡ Some body → Spells text body
  go (Ok b) is h = let same : b ≡ body = cc in (one text body).0 (is ∙ ap (λ x. Ok x) same)
  go (Err f) is h = absurd (cc)

spelled_complete : OneAnswer → (text : List ℕ) (body : List Tree) → Spells text body → spelled text ≡ Some body
spelled_complete one text body h = ap faultless ((one text body).1 h)

pub data_found : {A : Type 0} → OneAnswer → (shape : List Tree → Option A) (encode : A → List Tree) (F : A → Type 0)
    → ((body : List Tree) (x : A) → shape body ≡ Some x → F x × (body ≡ encode x))
    → (text : List ℕ) (xs : List A) → (spelled text >>= items_in shape) ≡ Some xs → AllByRecursion F xs × Tells (list_of encode xs) text
data_found one shape encode F found text xs e =
    let s = stepped (spelled text) (items_in shape) xs e in
    let h = items_found shape encode F found s.0 xs s.2 in
    (h.0, subst (Spells text) h.1 (spelled_sound one text s.0 s.1))

-- the data is spelled, and read as these
pub record IsData {A : Type 0} (shape : List Tree → Option A) (text : List ℕ) (xs : List A) : Type 0 where
  pub there : is_there (spelled text) ≡ true
  pub read : (spelled text >>= items_in shape) ≡ Some xs

pub data_finds : {A : Type 0} → OneAnswer → (shape : List Tree → Option A) (encode : A → List Tree) (F : A → Type 0)
    → ((x : A) → F x → shape (encode x) ≡ Some x)
    → (text : List ℕ) (xs : List A) → AllByRecursion F xs → Tells (list_of encode xs) text → IsData shape text xs
data_finds one shape encode F finds text xs fit tells =
    let is = spelled_complete one text _ tells in
    record { there = ap is_there is; read = ap (λ o. o >>= items_in shape) is ∙ items_find shape encode F finds xs fit }

pub id_found_at : (text : List ℕ) (n : ℕ) → id_at text ≡ Some n → IsId n × (text ≡ decimal n)
id_found_at text n e =
    let s = stepped (number_of text) id_of n e in
    let h = number_sound text s.0 s.1 in
    let i = id_sound s.0 n s.2 in
    ((i.0, omega (arith, h.0, i.1)), h.1 ∙ ap decimal i.1)

pub id_finds_at : (n : ℕ) → IsId n → id_at (decimal n) ≡ Some n
id_finds_at n is = ap (λ o. o >>= id_of) (number_complete n is.1) ∙ id_complete n is.0

pub worker_found : (text : List ℕ) (n : ℕ) → (number_of text >>= worker_of) ≡ Some n → IsWorker n × (text ≡ decimal n)
worker_found text n e =
    let s = stepped (number_of text) worker_of n e in
    let h = number_sound text s.0 s.1 in
    let t = tested (nat_le 1 s.0 && nat_le s.0 most_workers) (Some s.0) n s.2 in
    let p = and_parts (nat_le 1 s.0) (nat_le s.0 most_workers) t.0 in
    let same : s.0 ≡ n = cc in
    (subst IsWorker same (leb-true 1 s.0 p.0, leb-true s.0 most_workers p.1), h.1 ∙ ap decimal same)

pub worker_finds : (n : ℕ) → IsWorker n → (number_of (decimal n) >>= worker_of) ≡ Some n
worker_finds n is =
    ap (λ o. o >>= worker_of) (number_complete n (omega (arith, is.1)))
    ∙ passed (nat_le 1 n && nat_le n most_workers) (Some n) None (and_from (nat_le 1 n) (nat_le n most_workers) (le-leb 1 n is.0) (le-leb n most_workers is.1))

protocol_sound : (n : ℕ) (p : Protocol) → protocol_of n ≡ Some p → n ≡ protocol_number p
protocol_sound n p e = go (n == 1) (n == 2) refl refl e where
  go : (one two : Bool) → (n == 1) ≡ one → (n == 2) ≡ two → (if one then Some Scalars else if two then Some Symbols else None) ≡ Some p → n ≡ protocol_number p
  go true two o t h = let same : Scalars ≡ p = cc in eqb-true n 1 o ∙ ap protocol_number same
  go false true o t h = let same : Symbols ≡ p = cc in eqb-true n 2 t ∙ ap protocol_number same
  go false false o t h = absurd (cc)

pub protocol_found : (text : List ℕ) (p : Protocol) → (number_of text >>= protocol_of) ≡ Some p → text ≡ decimal (protocol_number p)
protocol_found text p e =
    let s = stepped (number_of text) protocol_of p e in
    (number_sound text s.0 s.1).1 ∙ ap decimal (protocol_sound s.0 p s.2)

pub protocol_finds : (p : Protocol) → (number_of (decimal (protocol_number p)) >>= protocol_of) ≡ Some p
protocol_finds Scalars = ap (λ o. o >>= protocol_of) (number_complete 1 (lit< tt))
protocol_finds Symbols = ap (λ o. o >>= protocol_of) (number_complete 2 (lit< tt))
