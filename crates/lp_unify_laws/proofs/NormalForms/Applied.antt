-- Where the head of a term is no abstraction, the term on an argument ends if both end: first the term is reduced, then the argument.
use Rattle.std.proofs.Common.{◌≡◌, ◌∙◌, refl, sym, ap, subst as transport, Option, Some, None}
use Rattle.lp_calculus.specs.Term.{Term, index, atom, abs, app}
use Rattle.lp_calculus.specs.Convert.{leftmost_step, option_term, or_else}
use Rattle.lp_unify_laws.proofs.NormalForms.Ends.{Ends, rests, goes, first, second, one_of}

-- the head is an index or an atom
abbrev pub IsNeutral : Term → Type 0
IsNeutral (index i) = Unit {0}
IsNeutral (atom a) = Unit {0}
IsNeutral (abs b) = ⊥
IsNeutral (app t u) = IsNeutral t

pub app_step : (t u : Term) → IsNeutral t → leftmost_step (app t u) ≡ or_else (option_term (λ s. app s u) (leftmost_step t)) (option_term (app t) (leftmost_step u))
app_step (index i) u h = refl
app_step (atom a) u h = refl
app_step (abs b) u h = absurd h
app_step (app t v) u h = refl

pub neutral_stays : (t s : Term) → IsNeutral t → leftmost_step t ≡ Some s → IsNeutral s
neutral_stays (index i) s h e = absurd (cc)
neutral_stays (atom a) s h e = absurd (cc)
neutral_stays (abs b) s h e = absurd h
neutral_stays (app t u) s h e = elim (one_of (leftmost_step t) (leftmost_step u) (λ x. app x u) (app t) s (sym (app_step t u h) ∙ e)) [
  | first x i j ↦ transport IsNeutral (sym j) (neutral_stays t x h i)
  | second x n i j ↦ transport IsNeutral (sym j) h
]

-- a step of a part is one of the whole
whole : (t u : Term) → IsNeutral t → (o p : Option Term) → leftmost_step t ≡ o → leftmost_step u ≡ p → leftmost_step (app t u) ≡ or_else (option_term (λ s. app s u) o) (option_term (app t) p)
whole t u h o p e i = app_step t u h ∙ ap (λ x. or_else (option_term (λ s. app s u) x) (option_term (app t) (leftmost_step u))) e ∙ ap (λ x. or_else (option_term (λ s. app s u) o) (option_term (app t) x)) i

argument_ends : (t : Term) → IsNeutral t → leftmost_step t ≡ None → {u : Term} → Ends leftmost_step u → Ends leftmost_step (app t u)
argument_ends t h e (rests {t = u} i) = rests (whole t u h None None e i)
argument_ends t h e (goes {t = u} {s = v} i more) = goes (whole t u h None (Some v) e i) (argument_ends t h e more)

pub applied_ends : {t : Term} → IsNeutral t → Ends leftmost_step t → (u : Term) → Ends leftmost_step u → Ends leftmost_step (app t u)
applied_ends {t} h (rests e) u k = argument_ends t h e k
applied_ends {t} h (goes {s = s} e more) u k = goes (whole t u h (Some s) (leftmost_step u) e refl) (applied_ends (neutral_stays t s h e) more u k)
