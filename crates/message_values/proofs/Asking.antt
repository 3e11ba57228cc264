-- What is asked is what the chunks spell.
use Rattle.std.proofs.Common.{◌≡◌, ℕ, true, false, Bool, if◌then◌else◌, List, [], ◌∷◌, map, length, Option, Some, None, Result, Ok, Err, find, bytes_eq, refl, sym, ap, subst, ◌∙◌}
use Rattle.std.specs.Str.{is_utf8}
use Rattle.std.proofs.lemmas.Bool.{and_parts, and_from}
use Rattle.message_values.proofs.KnownSteps.{passed}
use Rattle.message_values.proofs.KnownTrees.{same_bytes}
use Rattle.message_values.specs.declared.editor_message.EditorMessage.{EditorMessage}
use Rattle.message_values.specs.declared.function.Function.{Function}
use Rattle.message_values.specs.declared.mode.Mode.{Mode}
use Rattle.message_values.specs.declared.refusal.Refusal.{Refusal}
use Rattle.message_values.specs.declared.refusal.Refusal.TheVariants.{ArgumentCount, BadUtf8, BadYxml, BadData}
use Rattle.message_values.specs.Asked.{spelled, is_there, all_yes, data_arguments, or_refused, asked_of, asked}
use Rattle.message_values.specs.Fits.{Fits}
use Rattle.message_values.specs.Functions.{word, functions_of, function_named, takes}
use Rattle.message_values.specs.Spelled.{AllUtf8, IsSpelled, function_of}
use Rattle.message_values.proofs.Made.{message_made}
use Rattle.message_values.proofs.Messages.{message_found}
use Rattle.message_values.proofs.Telling.{OneAnswer}
use Rattle.message_values.proofs.KnownRefused.{not_refused}

-- an answer behind a test that is not the refusal
behind : {A : Type 0} (b : Bool) (r : Result A Refusal) (reason : Refusal) (x : A) → (if b then r else Err reason) ≡ Ok x → (b ≡ true) × (r ≡ Ok x)
behind true r reason x e = (refl, e)
behind false r reason x e = absurd (cc)

all_utf8 : (texts : List (List ℕ)) → all_yes (map is_utf8 texts) ≡ true → AllUtf8 texts
all_utf8 [] h = tt
all_utf8 (t ∷ ts) h = let p = and_parts (is_utf8 t) (all_yes (map is_utf8 ts)) h in (p.0, all_utf8 ts p.1)

utf8_all : (texts : List (List ℕ)) → AllUtf8 texts → all_yes (map is_utf8 texts) ≡ true
utf8_all [] h = refl
utf8_all (t ∷ ts) h = and_from (is_utf8 t) (all_yes (map is_utf8 ts)) h.0 (utf8_all ts h.1)

named_so : (fs : List Function) (name : List ℕ) (f : Function) → find (λ g. bytes_eq (word g) name) fs ≡ Some f → name ≡ word f
named_so [] name f e = absurd (cc)
named_so (g ∷ gs) name f e = go (bytes_eq (word g) name) refl e (named_so gs name f) where
  go : (b : Bool) → bytes_eq (word g) name ≡ b → (if b then Some g else find (λ h. bytes_eq (word h) name) gs) ≡ Some f
      → (find (λ h. bytes_eq (word h) name) gs ≡ Some f → name ≡ word f) → name ≡ word f
  go true t h later = let same : g ≡ f = cc in sym (same_bytes (word g) name t) ∙ ap word same
  go false t h later = later h

-- the three facts of which the law speaks
abbrev Asks : Mode → List (List ℕ) → EditorMessage → Type 0
Asks mode chunks m = Fits m × IsSpelled m chunks × (function_named mode (word (function_of m)) ≡ Some (function_of m))

found : OneAnswer → (mode : Mode) (name : List ℕ) (arguments : List (List ℕ)) (m : EditorMessage) (f : Function) → function_named mode name ≡ Some f
    → asked_of (Some f) arguments ≡ Ok m → Asks mode (name ∷ arguments) m
found one mode name arguments m f n e =
    let count = behind (takes f (length arguments)) _ ArgumentCount m e in
    let utf8 = behind (all_yes (map is_utf8 arguments)) _ BadUtf8 m count.1 in
    let yxml = behind (all_yes (map (λ text. is_there (spelled text)) (data_arguments f arguments))) _ BadYxml m utf8.1 in
    let told = message_found one f arguments m (not_refused BadData _ m yxml.1) in
    let is = named_so (functions_of mode) name f n in
    let same : name ≡ word (function_of m) = is ∙ ap word (sym told.function) in (
      told.fits,
      (same, all_utf8 arguments utf8.0, told.tells),
      subst (λ w. function_named mode w ≡ Some (function_of m)) same (n ∙ ap (λ g. Some g) (sym told.function)),
    )

pub asked_sound : OneAnswer → (mode : Mode) (chunks : List (List ℕ)) (m : EditorMessage) → asked mode chunks ≡ Ok m → Asks mode chunks m
asked_sound one mode [] m e = absurd (cc)
asked_sound one mode (name ∷ arguments) m e = go (function_named mode name) refl e where
  go : (o : Option Function) → function_named mode name ≡ o → asked_of o arguments ≡ Ok m → Asks mode (name ∷ arguments) m
  go None n h = absurd (cc)
  go (Some f) n h = found one mode name arguments m f n h

pub asked_complete : OneAnswer → (mode : Mode) (chunks : List (List ℕ)) (m : EditorMessage) → Asks mode chunks m → asked mode chunks ≡ Ok m
asked_complete one mode [] m h = absurd h.1
asked_complete one mode (name ∷ arguments) m h =
    let f = function_of m in
    let made = message_made one m arguments h.0 h.1.2 in
    ap (λ w. asked_of (function_named mode w) arguments) h.1.0 ∙ ap (λ o. asked_of o arguments) h.2
    ∙ passed (takes f (length arguments)) _ (Err ArgumentCount) made.takes
    ∙ passed (all_yes (map is_utf8 arguments)) _ (Err BadUtf8) (utf8_all arguments h.1.1)
    ∙ passed (all_yes (map (λ text. is_there (spelled text)) (data_arguments f arguments))) _ (Err BadYxml) made.yxml
    ∙ ap (or_refused BadData) made.made
