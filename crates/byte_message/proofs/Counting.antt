-- One byte more of a text of numbers: a digit, or the comma after a number.
use Rattle.std.proofs.Common.{◌≡◌, ℕ, ◌+◌, ◌<◌, true, List, [], ◌∷◌, ◌++◌, length, drop, Option, Some, None, option_map, refl, ap, sym, ◌∙◌, append_assoc}
use Rattle.std.proofs.Math.ListN.{get_or}
use Rattle.std.proofs.lemmas.List.{at_drop_more}
use Rattle.byte_message.specs.Line.{is_digit}
use Rattle.byte_message.specs.Scan.{grown, scan}

digit_first : (before : Option ℕ) (b : ℕ) (bs : List ℕ) → is_digit b ≡ true
    → scan before (b ∷ bs) ≡ scan (Some (grown before b)) bs
digit_first None b bs e = rw e refl
digit_first (Some n) b bs e = rw e refl

pub digit_read : (text all : List ℕ) (i : ℕ) (before : Option ℕ) → i < length text
    → is_digit (get_or text i 0) ≡ true
    → option_map (λ ns. all ++ ns) (scan before (drop i text)) ≡ scan None text
    → option_map (λ ns. all ++ ns) (scan (Some (grown before (get_or text i 0))) (drop (i + 1) text))
    ≡ scan None text
digit_read text all i before h e r =
    let b = get_or text i 0 in
    let same = at_drop_more (scan before) text i 0 h ∙ digit_first before b (drop (i + 1) text) e in
    ap (λ o. option_map (λ ns. all ++ ns) o) (sym same) ∙ r

one_more : (all : List ℕ) (n : ℕ) (o : Option (List ℕ))
    → option_map (λ ns. (all ++ n ∷ []) ++ ns) o
    ≡ option_map (λ ns. all ++ ns) (option_map (λ ns. n ∷ ns) o)
one_more all n None = refl
one_more all n (Some ns) = ap (λ l. Some l) (append_assoc all (n ∷ []) ns)

comma_first : (n b : ℕ) (bs : List ℕ) → b ≡ 44
    → scan (Some n) (b ∷ bs) ≡ option_map (λ ns. n ∷ ns) (scan None bs)
comma_first n b bs e = rw e refl

pub comma_read : (text all : List ℕ) (i n : ℕ) (before : Option ℕ) → i < length text
    → get_or text i 0 ≡ 44 → before ≡ Some n
    → option_map (λ ns. all ++ ns) (scan before (drop i text)) ≡ scan None text
    → option_map (λ ns. (all ++ n ∷ []) ++ ns) (scan None (drop (i + 1) text)) ≡ scan None text
comma_read text all i n before h e f r =
    let same = ap (λ k. scan k (drop i text)) f ∙ at_drop_more (scan (Some n)) text i 0 h
    ∙ comma_first n (get_or text i 0) (drop (i + 1) text) e in
    one_more all n (scan None (drop (i + 1) text))
    ∙ ap (λ o. option_map (λ ns. all ++ ns) o) (sym same) ∙ r
