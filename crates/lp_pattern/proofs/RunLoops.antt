-- The loops of a run: turn after turn, from where it began.
use Rattle.std.proofs.Common.{◌≡◌, ℕ, suc, List, [], ◌∷◌, ◌++◌, reverse, length, ◌∙◌, refl, sym, ap, subst as transport, arith, Bool, true, false, Some, ◌⊎◌, inl, inr}
use Rattle.std.specs.Prelude.{◌||◌, ◌&&◌, not, nat_eq}
use Rattle.std.proofs.lemmas.Bool.Decides.{nat_tests}
use Rattle.std.proofs.lemmas.List.{reverse-append, reverse-reverse}
use Rattle.lp_term.specs.Nodes.{Nodes, Extends}
use Rattle.lp_model.specs.Pair.{Pair, Closing}
use Rattle.lp_model.specs.Rule.{Ruled, rule}
use Rattle.lp_model.specs.Unify.{Unified}
use Rattle.lp_model.specs.declared.answer.Pair.{Pair as Numbers}
use Rattle.lp_lemmas.proofs.Booleans.{or_assoc}
use Rattle.lp_unify_laws.proofs.Sames.{same_number}
use Rattle.lp_pattern.specs.declared.bindings.Bindings.{Bindings}
use Rattle.lp_pattern.specs.declared.fault.PatternRefusal.{PatternRefusal}
use Rattle.lp_pattern.specs.declared.fault.PatternRefusal.TheVariants as refusal
use Rattle.lp_pattern.specs.declared.rules.Verdict.{Verdict as Taken}
use Rattle.lp_pattern.specs.Ruling.{IsTaken, IsRuledOut}
use Rattle.lp_pattern.specs.Stripping.{IsShut}
use Rattle.lp_pattern.specs.Turning.{IsOpenReading, IsKnownPair, IsPairFor, IsTakenAs}
use Rattle.lp_pattern.specs.Turns.{Began, LeadsTo, IsBoundSince, ComesTo}
use Rattle.lp_pattern.specs.Under.{IsReading}
use Rattle.lp_pattern.specs.Unifying.{IsSolutionUnder, IsRefusedAs}
use Rattle.lp_pattern.proofs.RunTurns.{waiting_behind, taken_turn, refused_turn, none_left, woken, ended}

since_then : (x y : Bool) (r s t : Bindings) → IsBoundSince x r s → IsBoundSince y s t → IsBoundSince (x || y) r t
since_then false false r s t a b = (b.0 ∙ a.0, b.1 ∙ a.1)
since_then false true r s t a b = omega (arith, a.0, a.1, b)
since_then true false r s t a b = omega (arith, b.0, b.1, a)
since_then true true r s t a b = omega (arith, a, b)

-- nothing is bound at the start
pub comes_first : (limit : ℕ) (o : Began) (n : ℕ) (u : Unified) (bound : Bool) (b : Nodes) (s : Bindings) (next units : ℕ) (front waiting : List Numbers) → LeadsTo limit o n u b s next units front waiting bound →
    ComesTo limit o n u bound s b s next units front waiting
comes_first limit o n u true b s next units front waiting w = (false, (refl, refl), w)
comes_first limit o n u false b s next units front waiting w = (false, (refl, refl), w)

module _ (limit : ℕ) (o : Began) (n : ℕ) (u : Unified) (bound : Bool) (start : Bindings) (b : Nodes) (s : Bindings) (next units : ℕ) (q : Numbers) (todo old waiting : List Numbers) (popped : todo ≡ old ++ q ∷ [])
    (k : ComesTo limit o n u bound start b s next units (reverse todo) waiting) where
  -- the pair on top
  at_hand : LeadsTo limit o n u b s next units (q ∷ reverse old) waiting (bound || k.0)
  at_hand = transport (λ l. LeadsTo limit o n u b s next units l waiting (bound || k.0)) (ap reverse popped ∙ reverse-append old (q ∷ [])) k.2

  pub next_turn : (d : Nodes) (s' : Bindings) (next' before left : ℕ) (new later : List Numbers) (e : Extends b d) (v : Taken) → units ≡ suc before →
      ((c : Closing) → IsReading b s c → IsShut c → (p : Pair) → IsPairFor b c q p → (m : ℕ) (r : Ruled) → rule m next p ≡ Some r → IsTaken v before left r) →
      ((c : Closing) → IsOpenReading b s next c → (lv : ℕ → ℕ) → (p : Pair) → IsPairFor b c q p → IsKnownPair lv next p → (m : ℕ) (r : Ruled) → rule m next p ≡ Some r → IsTakenAs v lv next c s d s' next' old new p r.verdict) →
      waiting_behind v waiting ≡ later → ComesTo limit o n u bound start d s' next' left (reverse new) later
  next_turn d s' next' before left new later e v z j t l =
      let w = taken_turn limit o n u (bound || k.0) b s next units q old waiting at_hand d s' next' before left new e v z j t in (
        k.0 || w.0,
        since_then k.0 w.0 start s s' k.1 w.1,
        transport (λ ws. LeadsTo limit o n u d s' next' left (reverse new) ws (bound || (k.0 || w.0))) l
            (transport (LeadsTo limit o n u d s' next' left (reverse new) (waiting_behind v waiting)) (or_assoc bound k.0 w.0) w.2),
      )

  pub turn_spent : (e : PatternRefusal) → (e ≡ refusal.Deep) × (units ≡ 0) → IsRefusedAs e n u
  turn_spent e h = none_left limit o n u (bound || k.0) b s next units q old waiting at_hand e h

  pub turn_refused : (before : ℕ) (e : PatternRefusal) → units ≡ suc before → ((c : Closing) → IsOpenReading b s next c → (lv : ℕ → ℕ) → (p : Pair) → IsPairFor b c q p → IsKnownPair lv next p → (m : ℕ) → IsRuledOut m e before (rule m next p)) → IsRefusedAs e n u
  turn_refused before e z h = refused_turn limit o n u (bound || k.0) b s next units q old waiting at_hand before e z h

pub one_of : (a b : Bool) → (a ≡ true) ⊎ (b ≡ true) → (a || b) ≡ true
one_of true b e = refl
one_of false true e = refl
one_of false false (inl e) = e
one_of false false (inr e) = e

-- two marks tell whether something was bound between
pub marks_tell : (x since : Bool) (s s' : Bindings) (t t' y y' : ℕ) → x ≡ not (nat_eq t' t && nat_eq y' y) → t ≡ length s.terms.entries → t' ≡ length s'.terms.entries → y ≡ length s.types.entries → y' ≡ length s'.types.entries → IsBoundSince since s s' → since ≡ x
marks_tell x false s s' t t' y y' e a a' b b' h =
    let p : t' ≡ t = a' ∙ h.0 ∙ sym a in
    let q : y' ≡ y = b' ∙ h.1 ∙ sym b in
    let i : nat_eq t' t ≡ true = grind (arith, nat_tests) in
    let j : nat_eq y' y ≡ true = grind (arith, nat_tests) in
    sym (e ∙ (λ k. not (i k && j k)))
marks_tell x true s s' t t' y y' e a a' b b' h = go (nat_eq t' t) (nat_eq y' y) refl refl
  where
    go : (v w : Bool) → nat_eq t' t ≡ v → nat_eq y' y ≡ w → true ≡ x
    go true true i j = let p = same_number t' t i in let q = same_number y' y j in absurd (omega (arith, a, a', b, b', h, p, q))
    go true false i j = sym (e ∙ (λ k. not (i k && j k)))
    go false w i j = sym (e ∙ (λ k. not (i k && j k)))

module _ (limit : ℕ) (o : Began) (n : ℕ) (u : Unified) (b : Nodes) (s : Bindings) (next units : ℕ) (todo old waiting left : List Numbers) (bound : Bool) where
  -- the pairs are put on a stack
  pub run_starts : (start : Bindings) (qs : List Numbers) → ComesTo limit o n u false start b s next units qs waiting → ((k : Bool) → IsBoundSince k start s → k ≡ bound) → todo ≡ old ++ reverse qs → old ≡ [] → left ≡ waiting →
      LeadsTo limit o n u b s next units (reverse todo) left bound
  run_starts start qs w m e f l =
      transport (λ x. LeadsTo limit o n u b s next units (reverse todo) x bound) (sym l)
      (transport (λ x. LeadsTo limit o n u b s next units x waiting bound) (sym (ap reverse (e ∙ ap (λ x. x ++ reverse qs) f) ∙ reverse-reverse qs))
      (transport (LeadsTo limit o n u b s next units qs waiting) (m w.0 w.1) w.2))

  -- those that wait are put on the empty stack
  pub wakes : LeadsTo limit o n u b s next units [] waiting bound → bound ≡ true → todo ≡ old ++ reverse waiting → old ≡ [] → left ≡ [] → LeadsTo limit o n u b s next units (reverse todo) left false
  wakes w m e f l =
      transport (λ x. LeadsTo limit o n u b s next units (reverse todo) x false) (sym l)
      (transport (λ x. LeadsTo limit o n u b s next units x [] false) (sym (ap reverse (e ∙ ap (λ x. x ++ reverse waiting) f) ∙ reverse-reverse waiting))
      (woken limit o n u b s next units waiting (transport (LeadsTo limit o n u b s next units [] waiting) m w)))

  pub ends : LeadsTo limit o n u b s next units [] waiting bound → bound ≡ false → IsSolutionUnder o.levels o.next o.closing b s next waiting u
  ends w m = ended limit o n u b s next units waiting (transport (LeadsTo limit o n u b s next units [] waiting) m w)
