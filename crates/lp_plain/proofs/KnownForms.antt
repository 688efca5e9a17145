-- Head reduction keeps what is known, and the parts of a connective are known where the term is.
use Rattle.std.proofs.Common.{◌≡◌, ℕ, zero, suc, List, [], ◌∷◌, refl, sym, ap, ◌∙◌, subst, arith, nat_eq, Bool, true, false, None, Some, if◌then◌else◌}
use Rattle.lp_calculus.specs.Types.{Ty}
use Rattle.lp_calculus.specs.Term.{Term, Atom, index, atom, abs, app, substitute, constant, integer, text, eigen, logic, param}
use Rattle.lp_calculus.specs.Convert.{by_beta, head_step, here, option_term, steps}
use Rattle.lp_calculus.specs.Fill.{Within}
use Rattle.lp_calculus.specs.Spine.{arguments, head_of}
use Rattle.lp_calculus.proofs.BetaEta.{shift_one}
use Rattle.lp_calculus.proofs.Fills.{within_shift, within_unrename}
use Rattle.lp_calculus.proofs.Plain.{shift-none}
use Rattle.lp_calculus.proofs.Steps.{within_step}
use Rattle.lp_standard.specs.Connectives.{Connective, body_of, connective_at, connective_of, connective_of_constant}
use Rattle.lp_standard.specs.Connectives as connective
use Rattle.lp_standard.specs.Numbers as number
use Rattle.lp_model.specs.Look.{head_normal}
use Rattle.lp_model.specs.Pair.{Closing, closed}
use Rattle.lp_pattern.proofs.Looking.{closed_substitute}
use Rattle.lp_plain.specs.Entries.{HeadsTo}
use Rattle.lp_plain.proofs.AppliedGoals.{shifted_back}
use Rattle.lp_plain.proofs.TrialParts.{AllAre, arguments_written}

head_within : (P : Atom → Type 0) (d : ℕ) (t s : Term) → head_step t ≡ Some s → Within P d t → Within P d s
head_within P d (index i) s e w = absurd (cc)
head_within P d (atom a) s e w = absurd (cc)
head_within P d (abs b) s e w =
    elim (head_step b) as (λ o. head_step b ≡ o → option_term abs o ≡ Some s → Within P d s) [
      | None ↦ λ p q. absurd (cc)
      | Some r ↦ λ p q. let z : abs r ≡ s = cc in subst (Within P d) z (head_within P (suc d) b r p w)
    ] refl e
head_within P d (app (abs b) u) s e w = let z : substitute u b ≡ s = cc in subst (Within P d) z (within_step P d (here (by_beta b u)) w)
head_within P d (app (index i) u) s e w = absurd (cc)
head_within P d (app (atom a) u) s e w = absurd (cc)
head_within P d (app (app t v) u) s e w =
    elim (head_step (app t v)) as (λ o. head_step (app t v) ≡ o → option_term (λ y. app y u) o ≡ Some s → Within P d s) [
      | None ↦ λ p q. absurd (cc)
      | Some r ↦ λ p q. let z : app r u ≡ s = cc in let y : Within P d (app r u) = (head_within P d (app t v) r p w.0, w.1) in subst (Within P d) z y
    ] refl e

steps_within : (P : Atom → Type 0) (d j : ℕ) (t s : Term) → steps head_step j t ≡ Some s → Within P d t → Within P d s
steps_within P d zero t s e w = let q : t ≡ s = cc in subst (Within P d) q w
steps_within P d (suc j) t s e w = elim (head_step t) as (λ o. head_step t ≡ o → (elim o [ None ↦ None | Some r ↦ steps head_step j r ]) ≡ Some s → Within P d s) [
  | None ↦ λ p q. absurd (cc)
  | Some r ↦ λ p q. steps_within P d j r s q (head_within P d t r p w)
] refl e

pub heads_within : (P : Atom → Type 0) (d : ℕ) (t v : Term) → HeadsTo t v → Within P d t → Within P d v
heads_within P d t v h w = steps_within P d h.0 t v h.2 w

pub normal_within : (P : Atom → Type 0) (d n : ℕ) (t v : Term) → head_normal n t ≡ Some v → Within P d t → Within P d v
normal_within P d zero t v e w = absurd (cc)
normal_within P d (suc n) t v e w = elim (head_step t) as (λ o. head_step t ≡ o → (elim o [ None ↦ Some t | Some r ↦ head_normal n r ]) ≡ Some v → Within P d v) [
  | None ↦ λ p q. let z : t ≡ v = cc in subst (Within P d) z w
  | Some r ↦ λ p q. normal_within P d n r v q (head_within P d t r p w)
] refl e

-- the parts of a connective
abbrev pub IsKnownForm : (P : Atom → Type 0) → Connective → Type 0
IsKnownForm P connective.True = Unit {0}
IsKnownForm P connective.Cut = Unit {0}
IsKnownForm P (connective.And l r) = Within P 0 l × Within P 0 r
IsKnownForm P (connective.Or l r) = Within P 0 l × Within P 0 r
IsKnownForm P (connective.Implies l r) = Within P 0 l × Within P 0 r
IsKnownForm P (connective.ForAll T b) = Within P 1 b
IsKnownForm P (connective.Exists T b) = Within P 1 b
IsKnownForm P (connective.Not g) = Within P 0 g
IsKnownForm P connective.Atomic = Unit {0}

module _ (P : Atom → Type 0) where
  if_known : (b : Bool) (x y : Connective) → IsKnownForm P x → IsKnownForm P y → IsKnownForm P (if b then x else y)
  if_known true x y h g = h
  if_known false x y h g = g

  pub body_known : (t : Term) → Within P 0 t → Within P 1 (body_of t)
  body_known (abs b) w = w
  body_known (index i) w = absurd (omega (arith, w))
  body_known (atom a) w = (w, omega arith)
  body_known (app t u) w = (within_shift P 0 (app t u) w, omega arith)

  -- and back
  pub from_body : (t : Term) → Within P 1 (body_of t) → Within P 0 t
  from_body (abs b) w = w
  from_body (index i) w = within_unrename P suc 0 1 (λ j p. omega (arith, p)) (index i) (subst (Within P 1) (shift_one (index i)) w.0)
  from_body (atom a) w = w.0
  from_body (app t u) w = within_unrename P suc 0 1 (λ j p. omega (arith, p)) (app t u) (subst (Within P 1) (shift_one (app t u)) w.0)

  constant_known : (c : ℕ) (ts : List Ty) (us : List Term) → AllAre (Within P 0) us → IsKnownForm P (connective_of_constant c ts us)
  constant_known c [] [] h = if_known (nat_eq c number.True) _ _ tt (if_known (nat_eq c number.Cut) _ _ tt tt)
  constant_known c (T ∷ ts) [] h = if_known (nat_eq c number.True) _ _ tt (if_known (nat_eq c number.Cut) _ _ tt tt)
  constant_known c [] (a ∷ []) h = if_known (nat_eq c number.Not) _ _ h.0 tt
  constant_known c (T ∷ []) (a ∷ []) h = if_known (nat_eq c number.ForAll) _ _ (body_known a h.0) (if_known (nat_eq c number.Exists) _ _ (body_known a h.0) tt)
  constant_known c (T ∷ U ∷ ts) (a ∷ []) h = tt
  constant_known c [] (a ∷ b ∷ []) h =
      let p : Within P 0 a × Within P 0 b = (h.0, h.1.0) in
      let q : Within P 0 b × Within P 0 a = (h.1.0, h.0) in
      if_known (nat_eq c number.And) _ _ p (if_known (nat_eq c number.Or) _ _ p (if_known (nat_eq c number.Implies) _ _ p (if_known (nat_eq c number.If) _ _ q tt)))
  constant_known c (T ∷ []) (a ∷ b ∷ []) h = tt
  constant_known c (T ∷ U ∷ ts) (a ∷ b ∷ []) h = tt
  constant_known c [] (a ∷ b ∷ d ∷ us) h = tt
  constant_known c (T ∷ []) (a ∷ b ∷ d ∷ us) h = tt
  constant_known c (T ∷ U ∷ ts) (a ∷ b ∷ d ∷ us) h = tt

  at_known : (t : Term) (us : List Term) → AllAre (Within P 0) us → IsKnownForm P (connective_at t us)
  at_known (index i) us h = tt
  at_known (atom (constant c ts)) us h = constant_known c ts us h
  at_known (atom (integer j)) us h = tt
  at_known (atom (text x)) us h = tt
  at_known (atom (eigen k)) us h = tt
  at_known (atom (logic x l)) us h = tt
  at_known (atom (param k T)) us h = tt
  at_known (abs b) us h = tt
  at_known (app t u) us h = tt

  pub form_known : (t : Term) → Within P 0 t → IsKnownForm P (connective_of t)
  form_known t w = at_known (head_of t) (arguments t) (arguments_written P 0 t [] w tt)

  -- a quantifier's body on a term that the bindings read as it is
  pub put_known : (z : Closing) (u : Term) → closed z u ≡ u → Within P 0 u → (t : Term) → Within P 0 (closed z t) → Within P 0 (closed z (substitute u (body_of t)))
  put_known z u e k (abs b) w =
      let q : closed z (substitute u b) ≡ substitute u (body_of (closed z (abs b))) = closed_substitute z u b ∙ (λ i. substitute (e i) (body_of (closed z (abs b)))) in
      let y : Within P 0 (app (closed z (abs b)) u) = (w, k) in
      subst (Within P 0) (sym q) (within_step P 0 (here (by_beta (body_of (closed z (abs b))) u)) y)
  put_known z u e k (index i) w =
      let y : Within P 0 (app (closed z (index i)) u) = (w, k) in
      subst (Within P 0) (sym (ap (closed z) (sym (shifted_back (index i) u)) ∙ ap (app (closed z (index i))) e)) y
  put_known z u e k (atom a) w =
      let q : substitute u (body_of (atom a)) ≡ app (atom a) u = ap (app (atom a)) (shift-none u) in
      let y : Within P 0 (app (closed z (atom a)) u) = (w, k) in
      subst (Within P 0) (sym (ap (closed z) q ∙ ap (app (closed z (atom a))) e)) y
  put_known z u e k (app t v) w =
      let y : Within P 0 (app (closed z (app t v)) u) = (w, k) in
      subst (Within P 0) (sym (ap (closed z) (sym (shifted_back (app t v) u)) ∙ ap (app (closed z (app t v))) e)) y
