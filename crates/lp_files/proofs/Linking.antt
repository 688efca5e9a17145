-- The image that is linked from the objects of a folder.
use Rattle.std.specs.Global.{Global}
use Rattle.std.proofs.Common.{◌≡◌, ◌⊎◌, ◌∙◌, ◌++◌, ◌∷◌, [], ◌&&◌, ℕ, Bool, true, false, List, Option, ap, inl, inr, refl, sym, subst}
use Rattle.std.specs.Prelude.{Vec, Result, Ok, Err, IfErr, IfOk, nat_eq, is_some, codes}
use Rattle.std.specs.Cmp.Lexicographic.{pointwise}
use Rattle.std.proofs.lemmas.Bool.{eq-eqb, eqb-true}
use Rattle.lp_lemmas.proofs.Elements.{All_pushed, All_empty}
use Rattle.lp_base.specs.Held.{Held}
use Rattle.lp_code.specs.declared.object.Object.{Object}
use Rattle.lp_code.specs.declared.image.Image.{Image}
use Rattle.lp_code.specs.Denote.{denote}
use Rattle.lp_code.specs.Naming.{object_tables}
use Rattle.lp_object.specs.Files.{spelled_image, spelled_object}
use Rattle.lp_object.specs.Plain.{PlainImage, plain_image, plain_object}
use Rattle.lp_build.specs.Told.{IsTold}
use Rattle.lp_link.specs.Linked.{IsLinked}
use Rattle.lp_link.specs.Refusals.{IsLinkRefusal}
use Rattle.lp_link.specs.declared.fault.LinkRefusal.{LinkRefusal}
use Rattle.lp_lines.specs.declared.refusal.Refusal.{Refusal}
use Rattle.lp_lines.specs.declared.refusal.Refusal.TheVariants as refusal
use Rattle.lp_files.specs.Made.{IsHeldImage, IsHeldObject, AreHeldObjects, SpellsLinked, IsImageLinked}
use Rattle.lp_files.specs.Ordered.{AreInOrder}
use Rattle.lp_files.specs.Said.{TellsUnlinked}
use Rattle.lp_files.specs.Unlinked.{IsTooLong, IsUnjoined, IsUnlinked, IsUnmigrated, long_image, no_memory_to_link, no_memory_to_migrate, of_objects, too_long, unlinked}
use Rattle.lp_files.specs.inner.Objects.{AreMore}

-- texts of the same bytes
pub same_bytes : (xs ys : List ℕ) → pointwise nat_eq xs ys ≡ true → xs ≡ ys
same_bytes [] [] e = refl
same_bytes [] (y ∷ ys) e = absurd (let z : false ≡ true = e in cc)
same_bytes (x ∷ xs) [] e = absurd (let z : false ≡ true = e in cc)
same_bytes (x ∷ xs) (y ∷ ys) e = by (nat_eq x y) refl (same_bytes xs ys) e
  where
    by : (b : Bool) → nat_eq x y ≡ b → (pointwise nat_eq xs ys ≡ true → xs ≡ ys) → (b && pointwise nat_eq xs ys) ≡ true → x ∷ xs ≡ y ∷ ys
    by true q go h = λ i. eqb-true x y q i ∷ go h i
    by false q go h = absurd (let z : false ≡ true = h in cc)

pub same_compared : (xs ys : List ℕ) → xs ≡ ys → pointwise nat_eq xs ys ≡ true
same_compared xs ys e = subst (λ zs. pointwise nat_eq xs zs ≡ true) e (itself xs)
  where
    itself : (xs : List ℕ) → pointwise nat_eq xs xs ≡ true
    itself [] = refl
    itself (x ∷ xs) = ap (λ b. b && pointwise nat_eq xs xs) (eq-eqb x x refl) ∙ itself xs

-- the object that a file holds
pub object_held : (told : Option Held) (name file slice bytes : List ℕ) (r : Result Object Refusal) → file ≡ name ++ codes ".lpo" → slice ≡ bytes → IsTold told file bytes → IfOk r (λ o. o.name.items ≡ name)
    → IfOk r (λ o. slice ≡ spelled_object (plain_object o)) → IfOk r (λ o. is_some (denote (object_tables o) o.code.records.items) ≡ true) → IfOk r (IsHeldObject told)
object_held told name file slice bytes (Ok o) f s there named spelled denotes = record {
  bytes = bytes;
  there = subst (λ w. IsTold told w bytes) (f ∙ ap (λ n. n ++ codes ".lpo") (sym named)) there;
  spelled = sym s ∙ spelled;
  denotes = denotes;
}
object_held told name file slice bytes (Err e) f s there named spelled denotes = tt

-- one more object
pub more_held : (told now : Option Held) (name : List ℕ) (old new : List Object) → now ≡ told → AreMore now name old new → AreHeldObjects told old → AreHeldObjects told new
more_held told now name old new same (o, is, as_asked, held) all = All_pushed (IsHeldObject told) new old o is all (subst (λ t. IsHeldObject t o) same held)

-- the first object
pub first_held : (told : Option Held) (old new : List Object) (o : Object) → old ≡ [] → new ≡ old ++ o ∷ [] → IsHeldObject told o → AreHeldObjects told new
first_held told old new o none is held = All_pushed (IsHeldObject told) new old o is (All_empty (IsHeldObject told) old none) held

-- the bytes of the image
pub spells_linked : (os : List Object) (image : Image) (r : Result (Vec ℕ Global) Refusal) → IsLinked os 0 image → IfOk r
    (λ bytes. bytes.items ≡ spelled_image (plain_image image)) → IfOk r (λ bytes. SpellsLinked os bytes.items)
spells_linked os image (Ok bytes) linked h = (image, linked, h)
spells_linked os image (Err e) linked h = tt

pub image_linked : (told : Option Held) (name : List ℕ) (os slice : List Object) (r : Result (Vec ℕ Global) Refusal) → slice ≡ os → AreInOrder name os → AreHeldObjects told os
    → IfOk r (λ bytes. SpellsLinked slice bytes.items) → IfOk r (λ bytes. IsImageLinked told name bytes.items)
image_linked told name os slice (Ok bytes) same ordered held h = record {
  objects = os;
  ordered = ordered;
  held = held;
  spells = subst (λ l. SpellsLinked l bytes.items) same h;
}
image_linked told name os slice (Err e) same ordered held h = tt

-- the image is not made of objects that were read
pub unlinked_is : (told : Option Held) (name : List ℕ) (os slice : List Object) (r : Result (Vec ℕ Global) Refusal) → slice ≡ os → AreInOrder name os → AreHeldObjects told os
    → IfErr r (IsUnjoined slice) → IfErr r (IsUnlinked told name)
unlinked_is told name os slice (Ok bytes) same ordered held h = tt
unlinked_is told name os slice (Err e) same ordered held h = of_objects os held ordered (subst (λ l. IsUnjoined l e) same h)

-- or it is too long
pub long_image_is : (os : List Object) (image : Image) (r : Result (Vec ℕ Global) Refusal) → IsLinked os 0 image → IfErr r (λ e. (e ≡ refusal.Memory) ⊎ IsTooLong (plain_image image) e) → IfErr r (IsUnjoined os)
long_image_is os image (Ok bytes) linked h = tt
long_image_is os image (Err e) linked (inl m) = no_memory_to_link m
long_image_is os image (Err e) linked (inr long) = long_image image linked long

pub long_migrated : (told : Option Held) (name : List ℕ) (image : PlainImage) (r : Result (Vec ℕ Global) Refusal) → IsHeldImage told name image → IfErr r (λ e. (e ≡ refusal.Memory) ⊎ IsTooLong image e) → IfErr r (IsUnmigrated told name)
long_migrated told name image (Ok bytes) held h = tt
long_migrated told name image (Err e) held (inl m) = no_memory_to_migrate m
long_migrated told name image (Err e) held (inr long) = too_long image held long

-- links that are refused
pub unlinked_or : (os : List Object) (e : LinkRefusal) (r : Refusal) → IsLinkRefusal os 0 e → (r ≡ refusal.Memory) ⊎ TellsUnlinked os e r → IsUnjoined os r
unlinked_or os e r is (inl m) = no_memory_to_link m
unlinked_or os e r is (inr tells) = unlinked e is tells
