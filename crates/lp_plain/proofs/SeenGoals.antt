-- What the definition's head reduction makes of a goal that is known at run time, by what the look at it came to.
use Rattle.std.proofs.Common.{◌≡◌, ◌⊎◌, ℕ, zero, suc, ◌+◌, ◌<◌, ◌≤◌, refl, sym, ap, inl, inr, ◌∙◌, subst, arith, Option, None, Some}
use Rattle.std.specs.Prelude.{IsSome}
use Rattle.lp_calculus.specs.Convert.{head_step, option_term, steps}
use Rattle.lp_calculus.specs.Term.{Term, index, atom, abs, app}
use Rattle.lp_term.specs.Nodes.{Nodes}
use Rattle.lp_model.specs.Look.{head_normal, weak_step}
use Rattle.lp_model.specs.Pair.{Closing, closed}
use Rattle.lp_pattern.specs.Seen.{IsEnded, IsEndedHead, IsReachedWithin}
use Rattle.lp_pattern.specs.Under.{IsReading}
use Rattle.lp_pattern.specs.declared.bindings.Bindings.{Bindings}
use Rattle.lp_unify_laws.proofs.Looks.{weak_head}
use Rattle.lp_plain.specs.Entries.{HeadsTo}
use Rattle.lp_plain.proofs.ClosedForms.{ended_closed, rest_of, same_end}
use Rattle.lp_plain.proofs.HeadFills.{heads_closed}

-- steps that leave an abstraction as it is
heads_of : (k : ℕ) (t s : Term) → steps weak_step k t ≡ Some s → steps head_step k t ≡ Some s
heads_of zero t s e = e
heads_of (suc k) t s e = elim (weak_step t) as (λ o. weak_step t ≡ o → (elim o [ None ↦ None | Some r ↦ steps weak_step k r ]) ≡ Some s → steps head_step (suc k) t ≡ Some s) [
  | None ↦ λ p q. absurd (cc)
  | Some r ↦ λ p q. ap (λ (o : Option Term). elim o as (λ x. Option Term) [ None ↦ None | Some y ↦ steps head_step k y ]) (weak_head t r p) ∙ heads_of k r s q
] refl e

some_heads : (k : ℕ) (t : Term) → IsSome (steps weak_step k t) → IsSome (steps head_step k t)
some_heads k t h = elim (steps weak_step k t) as (λ o. steps weak_step k t ≡ o → IsSome o → IsSome (steps head_step k t)) [
  | None ↦ λ p q. absurd (cc)
  | Some s ↦ λ p q. subst IsSome (sym (heads_of k t s p)) refl
] refl h

-- an abstraction stays one
abbrev pub IsAbs : Term → Type 0
IsAbs t = (b : Term) × (t ≡ abs b)

abs_steps : (i : ℕ) (b w : Term) → steps head_step i (abs b) ≡ Some w → IsAbs w
abs_steps zero b w e = let q : abs b ≡ w = (let z : Some (abs b) ≡ Some w = e in cc) in (b, sym q)
abs_steps (suc i) b w e = elim (head_step b) as (λ o. (elim (option_term abs o) [ None ↦ None | Some s ↦ steps head_step i s ]) ≡ Some w → IsAbs w) [
  | None ↦ λ q. absurd (cc)
  | Some c ↦ λ q. abs_steps i c w q
] e

abs_normal : (n : ℕ) (b t : Term) → head_normal n (abs b) ≡ Some t → IsAbs t
abs_normal zero b t e = absurd (cc)
abs_normal (suc n) b t e = elim (head_step b) as (λ o. (elim (option_term abs o) [ None ↦ Some (abs b) | Some s ↦ head_normal n s ]) ≡ Some t → IsAbs t) [
  | None ↦ λ q. let z : abs b ≡ t = cc in (b, sym z)
  | Some c ↦ λ q. abs_normal n c t q
] e

abs_before : (k n : ℕ) (w b t : Term) → steps head_step k w ≡ Some (abs b) → head_normal n w ≡ Some t → IsAbs t
abs_before zero n w b t e h = let q : w ≡ abs b = (let z : Some w ≡ Some (abs b) = e in cc) in abs_normal n b t (subst (λ x. head_normal n x ≡ Some t) q h)
abs_before (suc k) zero w b t e h = absurd (cc)
abs_before (suc k) (suc n) w b t e h =
    elim (head_step w) as (λ o. (elim o [ None ↦ None | Some s ↦ steps head_step k s ]) ≡ Some (abs b) → (elim o [ None ↦ Some w | Some s ↦ head_normal n s ]) ≡ Some t → IsAbs t) [
      | None ↦ λ p q. absurd (cc)
      | Some s ↦ λ p q. abs_before k n s b t p q
    ] e h

abs_end : (i k n : ℕ) (T w b t : Term) → steps head_step i T ≡ Some w → steps head_step k T ≡ Some (abs b) → head_normal n w ≡ Some t → IsAbs t
abs_end zero k n T w b t e f h = let q : T ≡ w = (let z : Some T ≡ Some w = e in cc) in abs_before k n w b t (subst (λ x. steps head_step k x ≡ Some (abs b)) q f) h
abs_end (suc i) zero n T w b t e f h =
    let q : T ≡ abs b = (let z : Some T ≡ Some (abs b) = f in cc) in
    let a = abs_steps (suc i) b w (subst (λ x. steps head_step (suc i) x ≡ Some w) q e) in
    abs_normal n a.0 t (subst (λ x. head_normal n x ≡ Some t) a.1 h)
abs_end (suc i) (suc k) n T w b t e f h =
    elim (head_step T) as (λ o. (elim o [ None ↦ None | Some s ↦ steps head_step i s ]) ≡ Some w → (elim o [ None ↦ None | Some s ↦ steps head_step k s ]) ≡ Some (abs b) → IsAbs t) [
      | None ↦ λ p q. absurd (cc)
      | Some s ↦ λ p q. abs_end i k n s w b t p q h
    ] e f

-- more steps than are allowed
longer : (i N : ℕ) (T w : Term) → i ≤ N → steps head_step i T ≡ Some w → IsSome (steps head_step N T) → (m : ℕ) × (N ≤ i + m) × IsSome (steps head_step m w)
longer zero N T w l e h = let q : T ≡ w = (let z : Some T ≡ Some w = e in cc) in (N, omega arith, subst (λ x. IsSome (steps head_step N x)) q h)
longer (suc i) zero T w l e h = absurd (omega (arith, l))
longer (suc i) (suc N) T w l e h =
    elim (head_step T) as (λ o. (elim o [ None ↦ None | Some s ↦ steps head_step i s ]) ≡ Some w → IsSome (elim o [ None ↦ None | Some s ↦ steps head_step N s ]) → (m : ℕ) × (suc N ≤ suc i + m) × IsSome (steps head_step m w)) [
      | None ↦ λ p q. absurd (cc)
      | Some s ↦ λ p q. let x = longer i N s w (omega (arith, l)) p q in let y = x.1 in (x.0, omega (arith, y), x.2)
    ] e h

none_long : (n m : ℕ) (w : Term) → n ≤ m → IsSome (steps head_step m w) → head_normal n w ≡ None
none_long zero m w l h = refl
none_long (suc n) zero w l h = absurd (omega (arith, l))
none_long (suc n) (suc m) w l h = elim (head_step w) as (λ o. IsSome (elim o as (λ x. Option Term) [ None ↦ None | Some s ↦ steps head_step m s ]) → (elim o as (λ x. Option Term) [ None ↦ Some w | Some s ↦ head_normal n s ]) ≡ None) [
  | None ↦ λ q. absurd (cc)
  | Some s ↦ λ q. none_long n m s (omega (arith, l)) q
] h

-- one step more, or none
two_heads : (X Y w : Term) → HeadsTo X Y → HeadsTo Y w → (i : ℕ) × (i ≤ 2) × (steps head_step i X ≡ Some w)
two_heads X Y w h g = by h.0 h.1 h.2
  where
    by : (k : ℕ) → k ≤ 1 → steps head_step k X ≡ Some Y → (i : ℕ) × (i ≤ 2) × (steps head_step i X ≡ Some w)
    by zero l e = let q : X ≡ Y = (let z : Some X ≡ Some Y = e in cc) in let y = g.1 in (g.0, omega (arith, y), subst (λ x. steps head_step g.0 x ≡ Some w) (sym q) g.2)
    by (suc zero) l e =
        let y = g.1 in (
          suc g.0,
          omega (arith, y),
          elim (head_step X) as (λ o. (elim o [ None ↦ None | Some s ↦ Some s ]) ≡ Some Y → (elim o [ None ↦ None | Some s ↦ steps head_step g.0 s ]) ≡ Some w) [
            | None ↦ λ p. absurd (cc)
            | Some s ↦ λ p. let q : s ≡ Y = (let z : Some s ≡ Some Y = p in cc) in subst (λ x. steps head_step g.0 x ≡ Some w) (sym q) g.2
          ] e,
        )
    by (suc (suc k)) l e = absurd (omega (arith, l))

-- the definition's goal, as the bindings read it
module _ (z : Closing) (before value w : Term) (h : HeadsTo before value) (g : HeadsTo (closed z value) w) where
  two : (i : ℕ) × (i ≤ 2) × (steps head_step i (closed z before) ≡ Some w)
  two = two_heads (closed z before) (closed z value) w (heads_closed z before value h) g

  -- a look that is too deep
  pub lacks_steps : (limit : ℕ) → 2 ≤ limit → IsSome (steps weak_step (suc limit) (closed z before)) → (n : ℕ) → n < limit → head_normal n w ≡ None
  lacks_steps limit q s n l =
      let t = two in
      let i = t.1 in
      let x = longer t.0 (suc limit) (closed z before) w (omega (arith, i, q)) t.2 (some_heads (suc limit) (closed z before) s) in
      let y = x.1 in
      none_long n x.0 w (omega (arith, i, y, l)) x.2

  -- one that came to its end
  module _ (b : Nodes) (s : Bindings) (r : IsReading b s z) (limit : ℕ) (n : ℕ) (t : Term) (e : head_normal n w ≡ Some t) where
    ended_head : (x : Term) → IsEndedHead s x → IsReachedWithin limit (closed z before) (closed z x) → t ≡ closed z x
    ended_head x q l =
        let k = heads_of l.0 (closed z before) (closed z x) l.2 in
        let stuck = (ended_closed b s z r x q).0 in
        let j = rest_of two.0 l.0 (closed z before) w (closed z x) two.2 k stuck in
        same_end j.0 n w (closed z x) t j.1 stuck e

    pub seen_goal : (x : Term) → IsEnded s x → IsReachedWithin limit (closed z before) (closed z x) → ((t ≡ closed z x) × IsEndedHead s x) ⊎ (IsAbs x × IsAbs t)
    seen_goal (index i) q l = inl (ended_head (index i) q l, q)
    seen_goal (atom a) q l = inl (ended_head (atom a) q l, q)
    seen_goal (abs c) q l = inr ((c, refl), abs_end two.0 l.0 n (closed z before) w _ t two.2 (heads_of l.0 (closed z before) (closed z (abs c)) l.2) e)
    seen_goal (app f u) q l = inl (ended_head (app f u) q l, q)
