-- Lists and options of a shape: found where they are encoded.
use Rattle.std.proofs.Common.{◌≡◌, List, [], ◌∷◌, map, Option, Some, None, IfSome, option_map, refl, ap, subst, ◌∙◌}
use Rattle.std.specs.List.{AllByRecursion}
use Rattle.yxml.specs.declared.tree.Tree.{Tree}
use Rattle.xml_codec.specs.Data.{list_body, option_body}
use Rattle.message_values.specs.Each.{◌>>=◌, each}
use Rattle.message_values.specs.Shapes.{list_in, items_in, option_in, optional, optional_in}
use Rattle.message_values.proofs.KnownFinds.{list_complete, option_complete}
use Rattle.message_values.proofs.KnownFound.{list_sound, option_sound}
use Rattle.message_values.proofs.KnownSteps.{stepped}

-- something of a kind was found for each, so each came from its own
each_found : {A B : Type 0} (f : A → Option B) (g : B → A) (F : B → Type 0) → ((x : A) (y : B) → f x ≡ Some y → F y × (x ≡ g y))
    → (xs : List A) (ys : List B) → each f xs ≡ Some ys → AllByRecursion F ys × (xs ≡ map g ys)
each_found f g F found [] ys e = let h : [] ≡ ys = cc in (subst (AllByRecursion F) h tt, ap (map g) h)
each_found f g F found (x ∷ xs) ys e =
    let one = stepped (f x) _ ys e in
    let more = stepped (each f xs) _ ys one.2 in
    let h : one.0 ∷ more.0 ≡ ys = cc in
    let first = found x one.0 one.1 in
    let others = each_found f g F found xs more.0 more.1 in
    (subst (AllByRecursion F) h (first.0, others.0), ap (λ z. z ∷ xs) first.1 ∙ ap (λ zs. g one.0 ∷ zs) others.1 ∙ ap (map g) h)

each_finds : {A B : Type 0} (f : A → Option B) (g : B → A) (F : B → Type 0) → ((y : B) → F y → f (g y) ≡ Some y)
    → (ys : List B) → AllByRecursion F ys → each f (map g ys) ≡ Some ys
each_finds f g F finds [] fit = refl
each_finds f g F finds (y ∷ ys) fit =
    ap (λ o. o >>= λ z. each f (map g ys) >>= λ zs. Some (z ∷ zs)) (finds y fit.0)
    ∙ ap (λ o. o >>= λ zs. Some (y ∷ zs)) (each_finds f g F finds ys fit.1)

pub items_found : {A : Type 0} (shape : List Tree → Option A) (encode : A → List Tree) (F : A → Type 0)
    → ((body : List Tree) (x : A) → shape body ≡ Some x → F x × (body ≡ encode x))
    → (body : List Tree) (xs : List A) → items_in shape body ≡ Some xs → AllByRecursion F xs × (body ≡ list_body (map encode xs))
items_found shape encode F found body xs e =
    let s = stepped (list_in body) (each shape) xs e in
    let h = each_found shape encode F found s.0 xs s.2 in
    (h.0, list_sound body s.0 s.1 ∙ ap list_body h.1)

pub items_find : {A : Type 0} (shape : List Tree → Option A) (encode : A → List Tree) (F : A → Type 0)
    → ((x : A) → F x → shape (encode x) ≡ Some x)
    → (xs : List A) → AllByRecursion F xs → items_in shape (list_body (map encode xs)) ≡ Some xs
items_find shape encode F finds xs fit = ap (λ o. o >>= each shape) (list_complete (map encode xs)) ∙ each_finds shape encode F finds xs fit

pub optional_found : {A : Type 0} (shape : List Tree → Option A) (encode : A → List Tree) (F : A → Type 0)
    → ((body : List Tree) (x : A) → shape body ≡ Some x → F x × (body ≡ encode x))
    → (body : List Tree) (o : Option A) → optional_in shape body ≡ Some o → IfSome o F × (body ≡ option_body (option_map encode o))
optional_found {A = A} shape encode F found body o e = let s = stepped (option_in body) (optional shape) o e in go s.0 s.1 s.2 where
  go : (item : Option (List Tree)) → option_in body ≡ Some item → optional shape item ≡ Some o → IfSome o F × (body ≡ option_body (option_map encode o))
  go None i h = let same : None ≡ o = cc in subst (λ p. IfSome p F × (body ≡ option_body (option_map encode p))) same (tt, option_sound body None i)
  go (Some b) i h =
      let s = stepped (shape b) _ o h in
      let is : Some (Some s.0) ≡ Some o = s.2 in
      let same : Some s.0 ≡ o = cc in
      let k = found b s.0 s.1 in
      subst (λ p. IfSome p F × (body ≡ option_body (option_map encode p))) same (k.0, option_sound body (Some b) i ∙ ap (λ c. option_body (Some c)) k.1)

pub optional_finds : {A : Type 0} (shape : List Tree → Option A) (encode : A → List Tree) (F : A → Type 0)
    → ((x : A) → F x → shape (encode x) ≡ Some x)
    → (o : Option A) → IfSome o F → optional_in shape (option_body (option_map encode o)) ≡ Some o
optional_finds shape encode F finds None fit = refl
optional_finds shape encode F finds (Some x) fit =
    ap (λ p. p >>= optional shape) (option_complete (Some (encode x))) ∙ ap (λ p. p >>= λ value. Some (Some value)) (finds x fit)
