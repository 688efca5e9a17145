-- A reduction by a step function ends: it rests, or it goes on to a term from which it ends; such an end is one after so many steps.
use Rattle.std.proofs.Common.{◌≡◌, ℕ, suc, ◌∙◌, refl, ap, Option, Some, None}
use Rattle.lp_calculus.specs.Term.{Term, abs}
use Rattle.lp_calculus.specs.Convert.{leftmost_step, option_term, or_else, steps}

pub data Ends (f : Term → Option Term) : Term → Type 0 where
  rests : {t : Term} → f t ≡ None → Ends f t
  goes : {t s : Term} → f t ≡ Some s → Ends f s → Ends f t

one_more : (f : Term → Option Term) (n : ℕ) {t s r : Term} → f t ≡ Some s → steps f n s ≡ Some r → steps f (suc n) t ≡ Some r
one_more f n e h = ap (λ o. elim o as (λ x. Option Term) [ None ↦ None | Some s ↦ steps f n s ]) e ∙ h

pub ends_after : (f : Term → Option Term) {t : Term} → Ends f t → (n : ℕ) × (s : Term) × ((steps f n t ≡ Some s) × (f s ≡ None))
ends_after f (rests {t = t} e) = (0, t, (refl, e))
ends_after f (goes {t = t} {s = s} e more) = let r = ends_after f more in (suc r.0, r.1, (one_more f r.0 e r.2.0, r.2.1))

-- an abstraction ends where its body does
pub abs_ends : {b : Term} → Ends leftmost_step b → Ends leftmost_step (abs b)
abs_ends (rests e) = rests (ap (option_term abs) e)
abs_ends (goes e more) = goes (ap (option_term abs) e) (abs_ends more)

-- what a mapped option, and one of two options, tell of the options
pub none_mapped : (f : Term → Term) (o : Option Term) → option_term f o ≡ None → o ≡ None
none_mapped f None e = refl
none_mapped f (Some x) e = absurd (cc)

pub some_is : {t s : Term} → Some t ≡ Some s → t ≡ s
some_is e = cc

pub data OneOf (a b : Option Term) (g h : Term → Term) (r : Term) : Type 0 where
  first : (x : Term) → a ≡ Some x → r ≡ g x → OneOf a b g h r
  second : (x : Term) → a ≡ None → b ≡ Some x → r ≡ h x → OneOf a b g h r

pub one_of : (a b : Option Term) (g h : Term → Term) (r : Term) → or_else (option_term g a) (option_term h b) ≡ Some r → OneOf a b g h r
one_of None None g h r e = absurd (cc)
one_of None (Some x) g h r e = second x refl refl (cc)
one_of (Some x) b g h r e = first x refl (cc)
