-- What comes of the search of a negated goal is what the run of that search tells: refuted, where the run has no more and gave nothing; held, where its first
-- answer is final.
use Rattle.std.proofs.Common.{◌≡◌, ℕ, zero, suc, ◌+◌, ◌≤◌, List, [], ◌∷◌, ◌++◌, length, Some, refl, sym, ap, ◌∙◌, subst, arith}
use Rattle.std.specs.Prelude.{Bool, true, false, if◌then◌else◌}
use Rattle.lp_model.specs.declared.ending.Ending.{Ending}
use Rattle.lp_model.specs.declared.ending.Ending.TheVariants.{NoMore, NoMoreCut, Enough, Steps, Flexible, Arithmetic, OpenNot, Deep}
use Rattle.lp_model.specs.Skeleton.{View, Gives, Opens, Parts, Takes, Cuts, Denies, Halts, Lacks, State, starts_within, move_denied, move_view, move_at, Note, Move, Goes, Tells, Stops, Breaks, Waits, Told, Inner, Refuted, Held, Broke, Lasts, move, later, inner_end, inner_after, inner, told_after, run}
use Rattle.lp_search_laws.proofs.Stack.Inners.{IsOver, StopsRightly, made_where_over, move_more, at_rightly, inner_rightly}
use Rattle.lp_search_laws.proofs.Stack.Ends.{made_where_ended}

-- it is refuted, in some steps and with some notes
abbrev pub IsRefuted : Inner → Type 0
IsRefuted r = (k : ℕ) × (ns : List Note) × (p : ℕ) × (r ≡ Refuted k ns p)

abbrev pub IsHeld : Inner → Type 0
IsHeld r = (k : ℕ) × (ns : List Note) × (p : ℕ) × (r ≡ Held k ns p)

later_refuted : (j : ℕ) (ns : List Note) (r : Inner) → IsRefuted (later j ns r) → IsRefuted r
later_refuted j ns (Refuted k ms p) h = (k, ms, p, refl)
later_refuted j ns (Held k ms p) h = let e = h.3 in cc
later_refuted j ns (Broke k ms x) h = let e = h.3 in cc
later_refuted j ns (Lasts k ms) h = let e = h.3 in cc

refuted_later : (j : ℕ) (ns : List Note) (r : Inner) → IsRefuted r → IsRefuted (later j ns r)
refuted_later j ns (Refuted k ms p) h = (j + k, ns ++ ms, p, refl)
refuted_later j ns (Held k ms p) h = let e = h.3 in cc
refuted_later j ns (Broke k ms x) h = let e = h.3 in cc
refuted_later j ns (Lasts k ms) h = let e = h.3 in cc

later_held : (j : ℕ) (ns : List Note) (r : Inner) → IsHeld (later j ns r) → IsHeld r
later_held j ns (Refuted k ms p) h = let e = h.3 in cc
later_held j ns (Held k ms p) h = (k, ms, p, refl)
later_held j ns (Broke k ms x) h = let e = h.3 in cc
later_held j ns (Lasts k ms) h = let e = h.3 in cc

refuted_over : (r : Inner) → IsRefuted r → IsOver r
unfolding IsOver
refuted_over (Refuted k ms p) h = tt
refuted_over (Held k ms p) h = tt
refuted_over (Broke k ms x) h = tt
refuted_over (Lasts k ms) h = let e = h.3 in cc

held_over : (r : Inner) → IsHeld r → IsOver r
unfolding IsOver
held_over (Refuted k ms p) h = tt
held_over (Held k ms p) h = tt
held_over (Broke k ms x) h = tt
held_over (Lasts k ms) h = let e = h.3 in cc

end_refuted : (p : ℕ) (e : Ending) → IsRefuted (inner_end p e) → e ≡ NoMore
end_refuted p NoMore h = refl
end_refuted p NoMoreCut h = let e = h.3 in cc
end_refuted p Enough h = let e = h.3 in cc
end_refuted p Steps h = let e = h.3 in cc
end_refuted p Flexible h = let e = h.3 in cc
end_refuted p (Arithmetic f) h = let e = h.3 in cc
end_refuted p OpenNot h = let e = h.3 in cc
end_refuted p Deep h = let e = h.3 in cc

end_not_held : (p : ℕ) (e : Ending) → IsHeld (inner_end p e) → ⊥
end_not_held p NoMore h = let e = h.3 in cc
end_not_held p NoMoreCut h = let e = h.3 in cc
end_not_held p Enough h = let e = h.3 in cc
end_not_held p Steps h = let e = h.3 in cc
end_not_held p Flexible h = let e = h.3 in cc
end_not_held p (Arithmetic f) h = let e = h.3 in cc
end_not_held p OpenNot h = let e = h.3 in cc
end_not_held p Deep h = let e = h.3 in cc

answer_not_refuted : (b : Bool) (p : ℕ) → IsRefuted (if b then Held 0 [] p else Broke 0 [] OpenNot) → ⊥
answer_not_refuted true p h = let e = h.3 in cc
answer_not_refuted false p h = let e = h.3 in cc

answer_final : (b : Bool) (p : ℕ) → IsHeld (if b then Held 0 [] p else Broke 0 [] OpenNot) → b ≡ true
answer_final true p h = refl
answer_final false p h = let e = h.3 in cc

-- steps
later_taken : (j : ℕ) (ms : List Note) (r : Inner) (k p : ℕ) (ns : List Note) → later j ms r ≡ Refuted k ns p → (k' : ℕ) × (p' : ℕ) × (ns' : List Note) × (r ≡ Refuted k' ns' p') × (k ≡ j + k')
later_taken j ms (Refuted k' ns' p') k p ns h = let e : j + k' ≡ k = cc in (k', p', ns', refl, sym e)
later_taken j ms (Held k' ns' p') k p ns h = cc
later_taken j ms (Broke k' ns' x) k p ns h = cc
later_taken j ms (Lasts k' ns') k p ns h = cc

later_held_taken : (j : ℕ) (ms : List Note) (r : Inner) (k p : ℕ) (ns : List Note) → later j ms r ≡ Held k ns p → (k' : ℕ) × (p' : ℕ) × (ns' : List Note) × (r ≡ Held k' ns' p') × (k ≡ j + k')
later_held_taken j ms (Refuted k' ns' p') k p ns h = cc
later_held_taken j ms (Held k' ns' p') k p ns h = let e : j + k' ≡ k = cc in (k', p', ns', refl, sym e)
later_held_taken j ms (Broke k' ns' x) k p ns h = cc
later_held_taken j ms (Lasts k' ns') k p ns h = cc

end_taken : (q : ℕ) (e : Ending) (k p : ℕ) (ns : List Note) → inner_end q e ≡ Refuted k ns p → k ≡ 0
end_taken q NoMore k p ns h = let e : 0 ≡ k = cc in sym e
end_taken q NoMoreCut k p ns h = cc
end_taken q Enough k p ns h = cc
end_taken q Steps k p ns h = cc
end_taken q Flexible k p ns h = cc
end_taken q (Arithmetic f) k p ns h = cc
end_taken q OpenNot k p ns h = cc
end_taken q Deep k p ns h = cc

answer_taken : (b : Bool) (q k p : ℕ) (ns : List Note) → (if b then Held 0 [] q else Broke 0 [] OpenNot) ≡ Held k ns p → k ≡ 0
answer_taken true q k p ns h = let e : 0 ≡ k = cc in sym e
answer_taken false q k p ns h = cc

module _ {T A : Type 0} (look : ℕ → T → View T A) where
  -- the run has no more and gave nothing
  abbrev pub Fails : Told A → Type 0
  Fails t = (t.ending ≡ Some NoMore) × (t.answers ≡ [])

  abbrev pub GivesFinal : (A → Bool) → Told A → Type 0
  GivesFinal f t = (a : A) × (more : List A) × (f a ≡ true) × (t.answers ≡ a ∷ more)

  module _ (f : A → Bool) (j n : ℕ) where
    fails_after : ((s : State T) → IsRefuted (inner look n f s) → Fails (run look j n s)) → (p : ℕ) (v : Move T A) → IsRefuted (inner_after (inner look n f) f p v) → Fails (told_after (run look j n) v)
    fails_after ih p (Goes i ns s) h = ih s (later_refuted i ns (inner look n f s) h)
    fails_after ih p (Tells a ns s) h = absurd (answer_not_refuted (f a) p h)
    fails_after ih p (Stops e) h = (ap Some (end_refuted p e h), refl)
    fails_after ih p (Breaks i ns e) h = let x = h.3 in cc
    fails_after ih p (Waits i ns) h = let x = h.3 in cc

    gives_after : ((s : State T) → IsHeld (inner look n f s) → GivesFinal f (run look j n s)) → (p : ℕ) (v : Move T A) → IsHeld (inner_after (inner look n f) f p v) → GivesFinal f (told_after (run look j n) v)
    gives_after ih p (Goes i ns s) h = ih s (later_held i ns (inner look n f s) h)
    gives_after ih p (Tells a ns s) h = (a, (run look j n s).answers, answer_final (f a) p h, refl)
    gives_after ih p (Stops e) h = absurd (end_not_held p e h)
    gives_after ih p (Breaks i ns e) h = let x = h.3 in cc
    gives_after ih p (Waits i ns) h = let x = h.3 in cc

  refuted_at : (f : A → Bool) (j n : ℕ) → n ≤ j → (s : State T) → IsRefuted (inner look n f s) → Fails (run look j n s)
  refuted_at f j zero l s h = let e = h.3 in cc
  refuted_at f j (suc n) l s h =
      let made = made_where_over (inner look n f) f s.row (move (inner look n) look s) (refuted_over (inner look (suc n) f s) h) in
      let l' : n ≤ j = omega arith in
      subst (λ v. Fails (told_after (run look j n) v)) (sym (move_more look n j l' s made)) (fails_after f j n (λ s' h'. refuted_at f j n l' s' h') s.row (move (inner look n) look s) h)

  held_at : (f : A → Bool) (j n : ℕ) → n ≤ j → (s : State T) → IsHeld (inner look n f s) → GivesFinal f (run look j n s)
  held_at f j zero l s h = let e = h.3 in cc
  held_at f j (suc n) l s h =
      let made = made_where_over (inner look n f) f s.row (move (inner look n) look s) (held_over (inner look (suc n) f s) h) in
      let l' : n ≤ j = omega arith in
      subst (λ v. GivesFinal f (told_after (run look j n) v)) (sym (move_more look n j l' s made)) (gives_after f j n (λ s' h'. held_at f j n l' s' h') s.row (move (inner look n) look s) h)

  pub refuted_fails : (f : A → Bool) (j : ℕ) (s : State T) (k p : ℕ) (ns : List Note) → inner look j f s ≡ Refuted k ns p → Fails (run look j j s)
  refuted_fails f j s k p ns e = refuted_at f j j (omega arith) s (k, ns, p, e)

  pub held_gives : (f : A → Bool) (j : ℕ) (s : State T) (k p : ℕ) (ns : List Note) → inner look j f s ≡ Held k ns p → GivesFinal f (run look j j s)
  held_gives f j s k p ns e = held_at f j j (omega arith) s (k, ns, p, e)

  -- in as many steps: of a refuted search
  refuted_taken : (f : A → Bool) (j n : ℕ) → ((s : State T) (k p : ℕ) (ns : List Note) → inner look n f s ≡ Refuted k ns p → (run look j n s).steps ≡ k) → (q : ℕ) (v : Move T A) (k p : ℕ) (ns : List Note) → inner_after (inner look n f) f q v ≡ Refuted k ns p → (told_after (run look j n) v).steps ≡ k
  refuted_taken f j n ih q (Goes i ms s) k p ns h =
      let r = later_taken i ms (inner look n f s) k p ns h in
      ap (λ x. i + x) (ih s r.0 r.1 r.2 r.3) ∙ sym r.4
  refuted_taken f j n ih q (Tells a ms s) k p ns h = absurd (answer_not_refuted (f a) q (k, ns, p, h))
  refuted_taken f j n ih q (Stops e) k p ns h = sym (end_taken q e k p ns h)
  refuted_taken f j n ih q (Breaks i ms e) k p ns h = cc
  refuted_taken f j n ih q (Waits i ms) k p ns h = cc

  steps_at : (f : A → Bool) (j n : ℕ) → n ≤ j → (s : State T) (k p : ℕ) (ns : List Note) → inner look n f s ≡ Refuted k ns p → (run look j n s).steps ≡ k
  steps_at f j zero l s k p ns h = cc
  steps_at f j (suc n) l s k p ns h =
      let made = made_where_over (inner look n f) f s.row (move (inner look n) look s) (refuted_over (inner look (suc n) f s) (k, ns, p, h)) in
      let l' : n ≤ j = omega arith in
      subst (λ v. (told_after (run look j n) v).steps ≡ k) (sym (move_more look n j l' s made)) (refuted_taken f j n (λ s' k' p' ns' h'. steps_at f j n l' s' k' p' ns' h') s.row (move (inner look n) look s) k p ns h)

  pub refuted_steps : (f : A → Bool) (j : ℕ) (s : State T) (k p : ℕ) (ns : List Note) → inner look j f s ≡ Refuted k ns p → (run look j j s).steps ≡ k
  refuted_steps f j s k p ns e = steps_at f j j (omega arith) s k p ns e

  -- of a held one, where one answer is asked for
  abbrev KeepsOne : Move T A → Type 0
  KeepsOne (Goes i ns s) = s.answers ≡ 1
  KeepsOne (Tells a ns s) = s.answers ≡ 0
  KeepsOne (Stops e) = Unit {0}
  KeepsOne (Breaks i ns e) = Unit {0}
  KeepsOne (Waits i ns) = Unit {0}

  one_denied : (n g u : ℕ) (lost : Bool) (ts rest : List T) (r : Inner) → KeepsOne (move_denied n 0 g u lost ts rest r)
  one_denied n g u lost ts rest (Refuted k ns p) = refl
  one_denied n g u lost ts rest (Held k ns p) = refl
  one_denied n g u lost ts rest (Broke k ns e) = tt
  one_denied n g u lost ts rest (Lasts k ns) = tt

  module _ (go : (A → Bool) → State T → Inner) where
    one_view : (n g u p : ℕ) (lost : Bool) (rest : List T) (v : View T A) → KeepsOne (move_view go n 0 g u p lost rest v)
    one_view n g u p lost rest (Gives a) = refl
    one_view n g u p lost rest (Opens ts) = refl
    one_view n g u zero lost rest (Parts ts) = tt
    one_view n g u (suc p) lost rest (Parts ts) = refl
    one_view zero g u p lost rest (Takes name ts) = tt
    one_view (suc n) g u p lost rest (Takes name ts) = refl
    one_view zero g u p lost rest (Cuts m ts) = tt
    one_view (suc n) g u p lost rest (Cuts m ts) = refl
    one_view zero g u p lost rest (Denies t f ts) = tt
    one_view (suc n) g u p lost rest (Denies t f ts) = one_denied n g u lost ts rest (go f (starts_within u t n 1))
    one_view n g u p lost rest (Halts e) = tt
    one_view n g u p lost rest Lacks = tt

    one_at : (n k g u p : ℕ) (lost : Bool) (stack : List T) → k ≡ 1 → KeepsOne (move_at go look n k g u p lost stack)
    one_at n zero g u p lost stack e = absurd (cc)
    one_at n (suc (suc k)) g u p lost stack e = absurd (omega (arith, e))
    one_at n (suc zero) g u p true [] e = tt
    one_at n (suc zero) g u p false [] e = tt
    one_at n (suc zero) g u p true (t ∷ rest) e = one_view n g u p true rest (look (length rest) t)
    one_at n (suc zero) g u p false (t ∷ rest) e = one_view n g u p false rest (look (length rest) t)

  none_at : (j m n k g u p : ℕ) (lost : Bool) (stack : List T) → k ≡ 0 → (told_after (run look j m) (move_at (inner look j) look n k g u p lost stack)).steps ≡ 0
  none_at j m n zero g u p lost stack e = refl
  none_at j m n (suc k) g u p lost stack e = absurd (cc)

  none_taken : (j m : ℕ) (s : State T) → s.answers ≡ 0 → (run look j m s).steps ≡ 0
  none_taken j zero s e = refl
  none_taken j (suc m) s e = none_at j m s.steps s.answers s.given s.rows s.row s.lost s.stack e

  held_taken : (f : A → Bool) (j n : ℕ) → ((s : State T) (k p : ℕ) (ns : List Note) → s.answers ≡ 1 → inner look n f s ≡ Held k ns p →
      (run look j n s).steps ≡ k) → (q : ℕ) (v : Move T A) (k p : ℕ) (ns : List Note) → KeepsOne v → inner_after (inner look n f) f q v ≡ Held k ns p
      → (told_after (run look j n) v).steps ≡ k
  held_taken f j n ih q (Goes i ms s) k p ns o h =
      let r = later_held_taken i ms (inner look n f s) k p ns h in
      ap (λ x. i + x) (ih s r.0 r.1 r.2 o r.3) ∙ sym r.4
  held_taken f j n ih q (Tells a ms s) k p ns o h = none_taken j n s o ∙ sym (answer_taken (f a) q k p ns h)
  held_taken f j n ih q (Stops e) k p ns o h = absurd (end_not_held q e (k, ns, p, h))
  held_taken f j n ih q (Breaks i ms e) k p ns o h = cc
  held_taken f j n ih q (Waits i ms) k p ns o h = cc

  held_steps_at : (f : A → Bool) (j n : ℕ) → n ≤ j → (s : State T) (k p : ℕ) (ns : List Note) → s.answers ≡ 1 → inner look n f s ≡ Held k ns p → (run look j n s).steps ≡ k
  held_steps_at f j zero l s k p ns o h = cc
  held_steps_at f j (suc n) l s k p ns o h =
      let made = made_where_over (inner look n f) f s.row (move (inner look n) look s) (held_over (inner look (suc n) f s) (k, ns, p, h)) in
      let l' : n ≤ j = omega arith in
      subst (λ v. (told_after (run look j n) v).steps ≡ k) (sym (move_more look n j l' s made))
      (held_taken f j n (λ s' k' p' ns' o' h'. held_steps_at f j n l' s' k' p' ns' o' h') s.row (move (inner look n) look s) k p ns (one_at (inner look n) s.steps s.answers s.given s.rows s.row s.lost s.stack o) h)

  pub held_steps : (f : A → Bool) (j : ℕ) (s : State T) (k p : ℕ) (ns : List Note) → s.answers ≡ 1 → inner look j f s ≡ Held k ns p → (run look j j s).steps ≡ k
  held_steps f j s k p ns o e = held_steps_at f j j (omega arith) s k p ns o e

  -- and back
  module _ (f : A → Bool) (j n m : ℕ) where
    refuted_after : ((s : State T) → Fails (run look j n s) → IsRefuted (inner look m f s)) → (p : ℕ) (v : Move T A) → StopsRightly v → Fails (told_after (run look j n) v) → IsRefuted (inner_after (inner look m f) f p v)
    refuted_after ih p (Goes i ns s) r h = refuted_later i ns (inner look m f s) (ih s h)
    refuted_after ih p (Tells a ns s) r h = let e = h.1 in cc
    refuted_after ih p (Stops x) r h = let e = h.0 in let q : x ≡ NoMore = cc in subst (λ y. IsRefuted (inner_end p y)) (sym q) (0, [], p, refl)
    refuted_after ih p (Breaks i ns x) r h = let e = h.0 in let q : x ≡ NoMore = cc in absurd (r q)
    refuted_after ih p (Waits i ns) r h = let e = h.0 in cc

  fails_at : (f : A → Bool) (j n m : ℕ) → j + n ≤ m → (s : State T) → Fails (run look j n s) → IsRefuted (inner look m f s)
  fails_at f j zero m l s h = let e = h.0 in cc
  fails_at f j (suc n) zero l s h = absurd (omega arith)
  fails_at f j (suc n) (suc m) l s h =
      let v = move (inner look j) look s in
      let l' : j ≤ m = omega arith in
      let b : j + n ≤ m = omega arith in
      let same = move_more look j m l' s (made_where_ended look (run look j n) v NoMore h.0) in
      let right = at_rightly look (inner look j) (λ g x. inner_rightly look j g x) s.steps s.answers s.given s.rows s.row s.lost s.stack in
      subst (λ w. IsRefuted (inner_after (inner look m f) f s.row w)) (sym same) (refuted_after f j n m (λ s' h'. fails_at f j n m b s' h') s.row v right h)

  pub fails_refuted : (f : A → Bool) (j n : ℕ) (s : State T) → Fails (run look j n s) → IsRefuted (inner look (j + n) f s)
  fails_refuted f j n s h = fails_at f j n (j + n) (omega arith) s h
