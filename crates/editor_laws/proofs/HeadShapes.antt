-- The names in the shape of a header are plain, where no aliases are in force.
use Rattle.std.proofs.Common.{◌≡◌, ℕ, zero, suc, Bool, true, false, cond, List, [], ◌∷◌, length}
use Rattle.std.proofs.Common.{take, drop, map, Option, Some, None, IfSome, refl, sym, ap, subst}
use Rattle.std.proofs.Common.{◌∙◌}
use Rattle.std.specs.List.{AllByRecursion}
use Rattle.std.specs.Option.{option_and_then}
use Rattle.outer_syntax.specs.Headings as W
use Rattle.outer_syntax.specs.Tokens.{text_of}
use Rattle.outer_syntax.specs.declared.token.Token.{Token}
use Rattle.outer_syntax.specs.declared.parts.Header.{Header}
use Rattle.outer_syntax.specs.Reading.{header_in}
use Rattle.doc_nodes.specs.Needs.{AliasList, source_tokens}
use Rattle.isar_rules.specs.Shapes.{is_header, headed, header_shape, shape_of}
use Rattle.isar_rules.specs.Words.{spot_of}
use Rattle.editor_laws.proofs.EachPart.{each_behind}
use Rattle.editor_laws.proofs.PlainTexts.{Plain}
use Rattle.editor_laws.proofs.TokenNames.{IfName, TokenPlain}
use Rattle.editor_laws.proofs.WordNames.{source_plain}
use Rattle.editor_laws.proofs.HeaderNames.{HeaderLaw, base_tokens, head_of}
use Rattle.editor_laws.proofs.HeaderTokens.{IsIdent, names_first}
use Rattle.editor_laws.proofs.PlainShapes.{SpotPlain, NamesPlain, AnyNames, ShapePlain, shape_plain}

-- a header, wherever it stands
any_head : (source : List ℕ) (ts : List Token)
    → IfSome (header_shape source ts) (ShapePlain AnyNames)
any_head source ts = go (is_header source ts) (header_in source)
  where
    of : (count : ℕ) (ts : List Token) → IfSome (headed source count ts) (ShapePlain AnyNames)
    of count (one ∷ n ∷ more) = tt
    of count _ = tt

    go : (b : Bool) (h : Option Header)
        → IfSome (cond b (option_and_then (λ h. headed source (length h.imports) ts) h) None)
        (ShapePlain AnyNames)
    go true (Some h) = of (length h.imports) ts
    go true None = tt
    go false h = tt

ident_plain : (source : List ℕ) (t : Token) → IsIdent t → TokenPlain source t
    → Plain (text_of source t)
ident_plain source t is plain = subst (λ k. IfName k (text_of source t)) is plain

idents_plain : (source : List ℕ) (n : ℕ) (ts : List Token) → AllByRecursion IsIdent (take n ts)
    → AllByRecursion (TokenPlain source) ts
    → AllByRecursion SpotPlain (map (spot_of source) (take n ts))
idents_plain source zero ts are all = tt
idents_plain source (suc n) [] are all = tt
idents_plain source (suc n) (t ∷ ts) are all =
    (ident_plain source t are.0 all.0, idents_plain source n ts are.1 all.1)

-- the header of a source whose tokens are read without aliases
first_head : HeaderLaw → (source : List ℕ)
    → IfSome (header_shape source (base_tokens source)) (ShapePlain NamesPlain)
first_head law source = go (is_header source (base_tokens source)) (header_in source) refl
  where
    of : (header : Header) → header_in source ≡ Some header → (ts : List Token)
        → base_tokens source ≡ ts → AllByRecursion (TokenPlain source) ts
        → IfSome (headed source (length header.imports) ts) (ShapePlain NamesPlain)
    of header e [] is all = tt
    of header e (one ∷ []) is all = tt
    of header e (one ∷ n ∷ more) is all =
        let head = head_of law source header e in
        let stand = names_first source head.heading head.count one n more
        (ap (λ ts. W.words source (take head.count ts)) (sym is) ∙ head.spelled) in
        let imports =
        subst (λ names. AllByRecursion IsIdent (take (length names) (drop 1 more)))
        (sym head.imports) stand.1 in (
          ident_plain source n stand.0 all.1.0,
          idents_plain source (length header.imports) (drop 1 more) imports
              (each_behind (TokenPlain source) 1 more all.1.1),
        )

    go : (b : Bool) (h : Option Header) → header_in source ≡ h
        → IfSome (cond b
        (option_and_then (λ h. headed source (length h.imports) (base_tokens source)) h) None)
        (ShapePlain NamesPlain)
    go true (Some h) e = of h e (base_tokens source) refl (source_plain [] source)
    go true None e = tt
    go false h e = tt

pub any_shape : (aliases : AliasList) (source : List ℕ)
    → IfSome (shape_of aliases source (source_tokens aliases source)) (ShapePlain AnyNames)
any_shape aliases source =
    shape_plain AnyNames aliases source _ (source_plain aliases source)
    (any_head source (source_tokens aliases source))

-- where no aliases are in force
pub first_shape : HeaderLaw → (source : List ℕ)
    → IfSome (shape_of [] source (source_tokens [] source)) (ShapePlain NamesPlain)
first_shape law source =
    shape_plain NamesPlain [] source (base_tokens source) (source_plain [] source)
    (first_head law source)
