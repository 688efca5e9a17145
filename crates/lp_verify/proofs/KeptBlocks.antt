-- The blocks as they are kept: innermost last, with the first end of a side.
use Rattle.std.proofs.Common.{◌≡◌, ◌∙◌, ◌<◌, ℕ, suc, ◌-◌, List, [], ◌∷◌, ◌++◌, map, length, reverse, Bool, true, false, Option, Some, None, ap, refl, sym, subst, arith}
use Rattle.std.specs.Prelude.{nat_le, not, ◌||◌, ◌^◌, min, slice_get, option_map, is_none, is_some, if◌then◌else◌}
use Rattle.std.specs.Option.{option_to_list}
use Rattle.std.specs.List.{list_any}
use Rattle.std.proofs.lemmas.List.{reverse-append, reverse-reverse, length-map, length-reverse}
use Rattle.std.proofs.lemmas.Bool.{le-leb, lt-leb, leb-true, leb-false}
use Rattle.lp_lemmas.proofs.Lists.{length_push_suc, get_push, reverse_pushed}
use Rattle.lp_code.specs.Rules.{has_none}
use Rattle.lp_verify.specs.declared.blocks.Block as kept
use Rattle.lp_verify.specs.declared.blocks.Block.TheVariants as open_block
use Rattle.lp_verify.specs.declared.blocks.Frame.{Frame}
use Rattle.lp_verify.specs.inner.Sides.{sides_in, innermost_side, innermost_frame, frames_around, around, is_past, ends_there, sides_settled, end_of, first_end_of, last_place, AreEnds}

last_at : (r fs : List Frame) → fs ≡ reverse r → slice_get fs (length fs - 1) ≡ innermost_frame r
last_at [] fs e = ap (λ (l : List Frame). slice_get l (length l - 1)) e
last_at (x ∷ xs) fs e =
    let f : fs ≡ reverse xs ++ x ∷ [] = e ∙ reverse-append (x ∷ []) xs in
    let l = length_push_suc (reverse xs) x in
    let n : length (reverse xs ++ x ∷ []) - 1 ≡ length (reverse xs) = omega (arith, l) in
    ap (λ (l : List Frame). slice_get l (length l - 1)) f ∙ ap (slice_get (reverse xs ++ x ∷ [])) n ∙ get_push (reverse xs) x

pub last_frame : (fs : List Frame) → slice_get fs (length fs - 1) ≡ innermost_frame (reverse fs)
last_frame fs = last_at (reverse fs) fs (sym (reverse-reverse fs))

first_block : (fs : List Frame) → option_map (λ (f : Frame). f.block) (innermost_frame fs) ≡ innermost_side (map (λ (f : Frame). f.block) fs)
first_block [] = refl
first_block (f ∷ fs) = refl

pub innermost_is : (fs : List Frame) (o : Option Frame) → o ≡ innermost_frame (reverse fs) → option_map (λ (f : Frame). f.block) o ≡ innermost_side (sides_in fs)
innermost_is fs o e = ap (option_map (λ (f : Frame). f.block)) e ∙ first_block (reverse fs)

no_frame : (fs : List Frame) → is_none (innermost_frame fs) ≡ has_none (map (λ (f : Frame). f.block) fs)
no_frame [] = refl
no_frame (f ∷ fs) = refl

pub empty_is : (fs : List Frame) (o : Option Frame) → o ≡ innermost_frame (reverse fs) → is_none o ≡ has_none (sides_in fs)
empty_is fs o e = ap is_none e ∙ no_frame (reverse fs)

pub count_is : (fs : List Frame) → length fs ≡ length (sides_in fs)
count_is fs = sym (length-map (reverse fs) (λ (f : Frame). f.block) ∙ length-reverse fs)

pub end_is : (fs : List Frame) (o : Option Frame) → o ≡ innermost_frame fs → first_end_of fs ≡ first_end_of (option_to_list o)
end_is [] None e = refl
end_is [] (Some f) e = absurd (cc)
end_is (f ∷ fs) None e = absurd (cc)
end_is (f ∷ fs) (Some g) e = let h : f ≡ g = cc in ap (λ (f : Frame). f.first_end) h

pub none_is : {A : Type 0} (o : Option A) (b : Bool) → is_some o ≡ not b → b ≡ is_none o
none_is None true e = refl
none_is None false e = absurd (cc)
none_is (Some f) true e = absurd (cc)
none_is (Some f) false e = refl

-- a frame is taken off
pub popped : (old new : List Frame) (o : Option Frame) → old ≡ new ++ option_to_list o → (o ≡ None → length old ≡ 0) → (o ≡ innermost_frame (reverse old)) × (reverse new ≡ frames_around (reverse old))
popped [] [] None e l = (refl, refl)
popped [] (x ∷ xs) None e l = absurd (cc)
popped (x ∷ xs) new None e l = let z : suc (length xs) ≡ 0 = l refl in absurd (omega (arith, z))
popped old new (Some f) e l =
    let r : reverse old ≡ f ∷ reverse new = reverse_pushed old new f e in
    (sym (ap innermost_frame r), sym (ap frames_around r))

blocks_around : (fs : List Frame) → map (λ (f : Frame). f.block) (frames_around fs) ≡ around (map (λ (f : Frame). f.block) fs)
blocks_around [] = refl
blocks_around (f ∷ fs) = refl

pub sides_around : (old new : List Frame) → reverse new ≡ frames_around (reverse old) → sides_in new ≡ around (sides_in old)
sides_around old new e = ap (map (λ (f : Frame). f.block)) e ∙ blocks_around (reverse old)

ends_around_of : (fs : List Frame) → AreEnds fs → AreEnds (frames_around fs)
ends_around_of [] h = tt
ends_around_of (f ∷ fs) h = h.1

pub ends_around : (old new : List Frame) → reverse new ≡ frames_around (reverse old) → AreEnds (reverse old) → AreEnds (reverse new)
ends_around old new e h = subst AreEnds (sym e) (ends_around_of (reverse old) h)

-- whether a side should have ended
min_below : (a b p : ℕ) → nat_le (min a b) p ≡ (nat_le a p || nat_le b p)
min_below a b p = by_tests (nat_le a p) (nat_le b p) refl refl
  where
    by_tests : (x y : Bool) → nat_le a p ≡ x → nat_le b p ≡ y → nat_le (min a b) p ≡ (x || y)
    by_tests true y h k = le-leb (min a b) p (omega (arith, leb-true a p h))
    by_tests false true h k = le-leb (min a b) p (omega (arith, leb-true b p k))
    by_tests false false h k = lt-leb (min a b) p (omega (arith, leb-false a p h, leb-false b p k))

past_end : (p : ℕ) (s : kept.Block) → p < 2 ^ 63 → nat_le (end_of s) p ≡ is_past p s
past_end p open_block.All h = lt-leb last_place p (omega (arith, h))
past_end p open_block.Assumption h = lt-leb last_place p (omega (arith, h))
past_end p open_block.Negation h = lt-leb last_place p (omega (arith, h))
past_end p (open_block.Left n) h = refl
past_end p (open_block.Right n) h = refl

pub past_is : (fs : List Frame) (p : ℕ) → AreEnds fs → p < 2 ^ 63 → nat_le (first_end_of fs) p ≡ list_any (is_past p) (map (λ (f : Frame). f.block) fs)
past_is [] p h l = lt-leb last_place p (omega (arith, l))
past_is (f ∷ fs) p h l = ap (λ n. nat_le n p) h.0 ∙ min_below (end_of f.block) (first_end_of fs) p ∙ (λ j. past_end p f.block l j || past_is fs p h.1 l j)

-- right sides that end here are left
ended_go : (p : ℕ) (ss : List kept.Block) → ends_there p (innermost_side ss) ≡ true → sides_settled p ss ≡ sides_settled p (around ss)
ended_go p [] h = refl
ended_go p (s ∷ ss) h = ap (λ b. if b then sides_settled p ss else s ∷ ss) h

ended_stay : (p : ℕ) (ss : List kept.Block) → ends_there p (innermost_side ss) ≡ false → sides_settled p ss ≡ ss
ended_stay p [] h = refl
ended_stay p (s ∷ ss) h = ap (λ b. if b then sides_settled p ss else s ∷ ss) h

pub settles_on : (p : ℕ) (first old new : List Frame) → sides_settled p (sides_in old) ≡ sides_settled p (sides_in first) → ends_there p (innermost_side (sides_in old)) ≡ true → sides_in new ≡ around (sides_in old) → sides_settled p (sides_in new) ≡ sides_settled p (sides_in first)
settles_on p first old new e h a = ap (sides_settled p) a ∙ sym (ended_go p (sides_in old) h) ∙ e

pub settles_here : (p : ℕ) (first old : List Frame) → sides_settled p (sides_in old) ≡ sides_settled p (sides_in first) → ends_there p (innermost_side (sides_in old)) ≡ false → sides_in old ≡ sides_settled p (sides_in first)
settles_here p first old e h = sym (ended_stay p (sides_in old) h) ∙ e

pub fewer_around : (p : ℕ) (ss : List kept.Block) → ends_there p (innermost_side ss) ≡ true → length (around ss) < length ss
fewer_around p [] h = absurd (cc)
fewer_around p (s ∷ ss) h = omega arith

-- a frame is put
pub pushed : (old new : List Frame) (f : Frame) → new ≡ old ++ f ∷ [] → sides_in new ≡ f.block ∷ sides_in old
pushed old new f e = ap (map (λ (f : Frame). f.block)) (reverse_pushed new old f e)

pub pushed_ends : (old new : List Frame) (f : Frame) → new ≡ old ++ f ∷ [] → f.first_end ≡ min (end_of f.block) (first_end_of (reverse old)) → AreEnds (reverse old) → AreEnds (reverse new)
pushed_ends old new f e m h = subst AreEnds (sym (reverse_pushed new old f e)) (m, h)
