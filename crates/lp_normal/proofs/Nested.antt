-- Lists within frames.
use Rattle.std.proofs.Common.{◌≡◌, List, [], ◌∷◌, ◌++◌, reverse, ap, ◌∙◌, sym, refl, subst, Bool, true, false, Option, Some, None}
use Rattle.std.proofs.lemmas.List.{reverse-append}
use Rattle.lp_normal.specs.declared.clauses.Assumed.{Assumed}
use Rattle.lp_normal.specs.declared.frame.Frame.{Frame}
use Rattle.lp_normal.specs.inner.Kinds.{is_assumed, waits_in_goals, IsNested}

last_first : (old new : List Frame) (f : Frame) → new ≡ old ++ f ∷ [] → reverse new ≡ f ∷ reverse old
last_first old new f e = ap reverse e ∙ reverse-append old (f ∷ [])

-- one frame more, around a list of goals
pub nested_pushed : (k : Bool) (old new : List Frame) (f : Frame) → new ≡ old ++ f ∷ [] → IsNested k (waits_in_goals f) (reverse old) → IsNested k true (reverse new)
nested_pushed k old new f e h = subst (IsNested k true) (sym (last_first old new f e)) (refl, h)

-- the innermost frame is left
pub nested_popped : (k i : Bool) (old new : List Frame) (f : Frame) → old ≡ new ++ f ∷ [] → IsNested k i (reverse old) → IsNested k (waits_in_goals f) (reverse new)
nested_popped k i old new f e h = (subst (IsNested k i) (last_first new old f e) h).1

-- a list of goals, or none around which something waits, is within goals
pub nested_last : (k i : Bool) (fs : List Frame) → fs ≡ [] → IsNested k i (reverse fs) → i ≡ k
nested_last k i fs e h = subst (λ l. IsNested k i (reverse l)) e h

-- the list of the formula itself has nothing around it
pub nested_outermost : (k : Bool) (o : Option Assumed) (fs : List Frame) → o ≡ None → IsNested k (is_assumed o) fs → false ≡ k
nested_outermost k o [] e h = sym (ap is_assumed e) ∙ h
nested_outermost k o (f ∷ fs) e h = absurd (let a : false ≡ true = sym (ap is_assumed e) ∙ h.0 in cc)

-- clauses that are assumed stand within goals
pub nested_assumed : (k : Bool) (o : Option Assumed) (a : Assumed) (fs : List Frame) → o ≡ Some a → IsNested k (is_assumed o) fs → IsNested k true fs
nested_assumed k o a fs e h = subst (λ z. IsNested k z fs) (ap is_assumed e) h
