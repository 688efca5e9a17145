-- Every run ends, where some weight of tasks falls: the steps and answers left, then the goals that may still be taken apart in a row,
-- then the weight of the stack go down. A run that is over tells the same with more moves.
use Rattle.std.proofs.Common.{◌≡◌, ℕ, zero, suc, ◌+◌, ◌<◌, ◌≤◌, List, [], ◌∷◌, ◌++◌, length, Some, refl, ap, ◌∙◌, arith}
use Rattle.std.specs.Prelude.{Bool, true, false, ◌-◌, if◌then◌else◌}
use Rattle.lp_model.specs.declared.ending.Ending.{Ending}
use Rattle.lp_model.specs.declared.ending.Ending.TheVariants.{NoMore, NoMoreCut, Enough, Steps, Flexible, Arithmetic, OpenNot, Deep}
use Rattle.lp_model.specs.Skeleton.{View, Gives, Opens, Parts, Takes, Cuts, Denies, Halts, Lacks, State, Note, Move, Goes, Tells, Stops, Breaks, Waits, Told, Inner, Refuted, Held, Broke, Lasts, starts_within, oldest, move_denied, move_view, move_at, move, later, inner_end, inner_after, inner, told_after, run}
use Rattle.lp_search_laws.proofs.Stack.Inners.{IsOver, IsMade, move_more}
use Rattle.lp_model.specs.Faithful.{total, OpensLighter, Falls, IsLack, Leaves, Suffices}
use Rattle.lp_lemmas.specs.Each.{EachOf}
use Rattle.lp_lemmas.proofs.Each.{each_append, each_drop}

total_append : {A : Type 0} (w : A → ℕ) (xs ys : List A) → total w (xs ++ ys) ≡ total w xs + total w ys
total_append w [] ys = let e : total w ys ≡ 0 + total w ys = omega arith in e
total_append w (x ∷ xs) ys = let e = total_append w xs ys in omega arith

module _ {T A : Type 0} (look : ℕ → T → View T A) where
  pub made_where_ended : (go : State T → Told A) (v : Move T A) (e : Ending) → (told_after go v).ending ≡ Some e → IsMade v
  unfolding IsMade
  made_where_ended go (Goes j ns s) e h = tt
  made_where_ended go (Tells a ns s) e h = tt
  made_where_ended go (Stops x) e h = tt
  made_where_ended go (Breaks j ns x) e h = tt
  made_where_ended go (Waits j ns) e h = cc

  stays_after : (j k n m : ℕ) → ((s : State T) (e : Ending) → (run look j n s).ending ≡ Some e → run look k m s ≡ run look j n s) → (v : Move T A) (e : Ending) → (told_after (run look j n) v).ending ≡ Some e → told_after (run look k m) v ≡ told_after (run look j n) v
  stays_after j k n m ih (Goes i ns s) e h = ap (λ (t : Told A). told_after (λ x. t) (Goes i ns s)) (ih s e h)
  stays_after j k n m ih (Tells a ns s) e h = ap (λ (t : Told A). told_after (λ x. t) (Tells a ns s)) (ih s e h)
  stays_after j k n m ih (Stops x) e h = refl
  stays_after j k n m ih (Breaks i ns x) e h = refl
  stays_after j k n m ih (Waits i ns) e h = refl

  pub stays_over : (j k n m : ℕ) → j ≤ k → n ≤ m → (s : State T) (e : Ending) → (run look j n s).ending ≡ Some e → run look k m s ≡ run look j n s
  stays_over j k zero m l' l s e h = cc
  stays_over j k (suc n) zero l' l s e h = absurd (omega arith)
  stays_over j k (suc n) (suc m) l' l s e h =
      let made = made_where_ended (run look j n) (move (inner look j) look s) e h in
      ap (told_after (run look k m)) (move_more look j k l' s made) ∙ stays_after j k n m (λ s' e' h'. stays_over j k n m l' (omega arith) s' e' h') (move (inner look j) look s) e h

module _ {T A : Type 0} (looks : ℕ → ℕ → T → View T A) (w : T → ℕ) (falls : (n : ℕ) → Falls (looks n) w) (Ok : T → Type 0) (ok : Suffices looks Ok) where
  -- with so many steps for each look and so many moves, or with more, the run ends
  Ends : State T → Type 0
  Ends s = (n : ℕ) × ((i j k : ℕ) → n ≤ i → n ≤ j → n ≤ k → (e : Ending) × ((run (looks i) j k s).ending ≡ Some e))

  InnerEnds : State T → Type 0
  InnerEnds s = (f : A → Bool) → (n : ℕ) × (r : Inner) × IsOver r × ((i j : ℕ) → n ≤ i → n ≤ j → inner (looks i) j f s ≡ r)

  -- a search and a negated goal's search from the same state
  BothEnd : State T → Type 0
  BothEnd s = Ends s × InnerEnds s

  -- what goes on by a move
  EndsBy : (ℕ → ((A → Bool) → State T → Inner) → Move T A) → Type 0
  EndsBy v = (n : ℕ) × ((i j k : ℕ) → n ≤ i → n ≤ j → n ≤ k → (e : Ending) × ((told_after (run (looks i) j k) (v i (inner (looks i) j))).ending ≡ Some e))

  InnerEndsBy : ℕ → (ℕ → ((A → Bool) → State T → Inner) → Move T A) → Type 0
  InnerEndsBy p v = (f : A → Bool) → (n : ℕ) × (r : Inner) × IsOver r × ((i j : ℕ) → n ≤ i → n ≤ j → inner_after (inner (looks i) j f) f p (v i (inner (looks i) j)) ≡ r)

  BothEndBy : ℕ → (ℕ → ((A → Bool) → State T → Inner) → Move T A) → Type 0
  BothEndBy p v = EndsBy v × InnerEndsBy p v

  over_later : (j : ℕ) (ns : List Note) (r : Inner) → IsOver r → IsOver (later j ns r)
  unfolding IsOver
  over_later j ns (Refuted k ms p) h = tt
  over_later j ns (Held k ms p) h = tt
  over_later j ns (Broke k ms e) h = tt
  over_later j ns (Lasts k ms) h = h

  over_end : (p : ℕ) (e : Ending) → IsOver (inner_end p e)
  unfolding IsOver
  over_end p NoMore = tt
  over_end p NoMoreCut = tt
  over_end p Enough = tt
  over_end p Steps = tt
  over_end p Flexible = tt
  over_end p (Arithmetic x) = tt
  over_end p OpenNot = tt
  over_end p Deep = tt

  over_final : (b : Bool) (p : ℕ) → IsOver (if b then Held 0 [] p else Broke 0 [] OpenNot)
  unfolding IsOver
  over_final true p = tt
  over_final false p = tt

  -- one move more
  more_moves : (n i j k : ℕ) (s : State T) → suc n ≤ i → suc n ≤ j → suc n ≤ k → ((i j k : ℕ) → n ≤ i → n ≤ j → n ≤ k → (e : Ending) ×
      ((told_after (run (looks i) j k) (move_at (inner (looks i) j) (looks i) s.steps s.answers s.given s.rows s.row s.lost s.stack)).ending ≡ Some
      e)) → (e : Ending) × ((run (looks i) j k s).ending ≡ Some e)
  more_moves n i j zero s l l' l'' h = absurd (omega arith)
  more_moves n i j (suc k) s l l' l'' h = h i j k (omega arith) (omega arith) (omega arith)

  inner_moves : (n i j : ℕ) (f : A → Bool) (s : State T) (r : Inner) → suc n ≤ i → suc n ≤ j → ((i j : ℕ) → n ≤ i → n ≤ j → inner_after (inner (looks i) j f) f s.row (move_at (inner (looks i) j) (looks i) s.steps s.answers s.given s.rows s.row s.lost s.stack) ≡ r) → inner (looks i) j f s ≡ r
  inner_moves n i zero f s r l l' h = absurd (omega arith)
  inner_moves n i (suc j) f s r l l' h = h i j (omega arith) (omega arith)

  by_goes : (q : ℕ) (x : ℕ) (ns : List Note) (s : State T) → BothEnd s → BothEndBy q (λ c go. Goes x ns s)
  unfolding BothEnd BothEndBy Ends InnerEnds EndsBy InnerEndsBy
  by_goes q x ns s h =
      ((h.0.0, λ i j k l l' l''. h.0.1 i j k l l' l''), λ f. let z = h.1 f in (z.0, later x ns z.1, over_later x ns z.1 z.2, λ i j l l'. ap (later x ns) (z.3 i j l l')))

  by_tells : (q : ℕ) (a : A) (ns : List Note) (s : State T) → BothEnd s → BothEndBy q (λ c go. Tells a ns s)
  unfolding BothEnd BothEndBy Ends InnerEnds EndsBy InnerEndsBy
  by_tells q a ns s h =
      ((h.0.0, λ i j k l l' l''. h.0.1 i j k l l' l''), λ f. (0, (if f a then Held 0 [] q else Broke 0 [] OpenNot), over_final (f a) q, λ i j l l'. refl))

  by_stops : (q : ℕ) (e : Ending) → BothEndBy q (λ c go. Stops e)
  unfolding BothEndBy EndsBy InnerEndsBy
  by_stops q e = ((0, λ i j k l l' l''. (e, refl)), λ f. (0, inner_end q e, over_end q e, λ i j l l'. refl))

  by_breaks : (q : ℕ) (x : ℕ) (ns : List Note) (e : Ending) → BothEndBy q (λ c go. Breaks x ns e)
  unfolding BothEndBy EndsBy InnerEndsBy IsOver
  by_breaks q x ns e = ((0, λ i j k l l' l''. (e, refl)), λ f. (0, Broke x ns e, tt, λ i j l l'. refl))

  -- b bounds the steps and the answers left, r the goals in a row, m the weight
  module _ (b : ℕ) (deeper : (s : State T) → EachOf Ok s.stack → s.steps + s.answers < b → BothEnd s) where
    -- by what came of the negated goal's search
    by_denied : (q n k g u : ℕ) (lost : Bool) (ts rest : List T) (r : Inner) → IsOver r → EachOf Ok ts → EachOf Ok rest → n + suc k < b → BothEndBy q (λ c go. move_denied n k g u lost ts rest r)
    unfolding IsOver
    by_denied q n k g u lost ts rest (Refuted j ns p) h oks okr hb = by_goes q _ _ _ (deeper _ (each_append Ok ts rest oks okr) (let e : n - j + suc k < b = omega arith in e))
    by_denied q n k g u lost ts rest (Held j ns p) h oks okr hb = by_goes q _ _ _ (deeper _ okr (let e : n - j + suc k < b = omega arith in e))
    by_denied q n k g u lost ts rest (Broke j ns e) h oks okr hb = by_breaks q _ _ e
    by_denied q n k g u lost ts rest (Lasts j ns) h oks okr hb = absurd h

    -- the same as a part of the move
    by_denial : (q n k g u : ℕ) (lost : Bool) (t : T) (f : A → Bool) (ts rest : List T) → Ok t → EachOf Ok ts → EachOf Ok rest → n + suc k < b → BothEndBy q (λ c go. move_denied n k g u lost ts rest (go f (starts_within u t n 1)))
    unfolding BothEnd BothEndBy Ends InnerEnds EndsBy InnerEndsBy
    by_denial q n k g u lost t f ts rest okt oks okr hb =
        let s : State T = starts_within u t n 1 in
        let d = deeper s (okt, tt) (let e : n + 1 < b = omega arith in e) in
        let z = d.1 f in
        let x = by_denied q n k g u lost ts rest z.1 z.2 oks okr hb in (
          (
            z.0 + x.0.0,
            λ i j o l l' l''. let l1 : z.0 ≤ i = omega arith in let l2 : z.0 ≤ j = omega arith in let l3 : x.0.0 ≤ i = omega arith in let
                l4 : x.0.0 ≤ j = omega arith in let l5 : x.0.0 ≤ o = omega arith in let y = x.0.1 i j o l3 l4 l5 in
                (y.0, ap (λ r. (told_after (run (looks i) j o) (move_denied n k g u lost ts rest r)).ending) (z.3 i j l1 l2) ∙ y.1),
          ),
          λ f'. let y = x.1 f' in (
            z.0 + y.0,
            y.1,
            y.2,
            λ i j l l'. let l1 : z.0 ≤ i = omega arith in let l2 : z.0 ≤ j = omega arith in let l3 : y.0 ≤
                i = omega arith in let l4 : y.0 ≤ j = omega arith in ap (λ r. inner_after (inner (looks i) j f') f' q
                (move_denied n k g u lost ts rest r)) (z.3 i j l1 l2) ∙ y.3 i j l3 l4,
          ),
        )

    module _ (r : ℕ) (parted : (s : State T) → EachOf Ok s.stack → s.steps + s.answers < suc b → s.row < r → BothEnd s) where
      module _ (m : ℕ) (opened : (s : State T) → EachOf Ok s.stack → s.steps + s.answers < suc b → s.row < suc r → total w s.stack < m → BothEnd s) where
        ends_view : (q n k g u p : ℕ) (lost : Bool) (t : T) (rest : List T) (v : View T A) → (IsLack v → ⊥) → OpensLighter w (w t) v → Leaves Ok v → EachOf Ok rest → n + suc k < suc b → p < suc r → w t + total w rest < suc m → BothEndBy q (λ c go. move_view go n k g u p lost rest v)
        ends_view q n k g u p lost t rest (Gives a) x l oks okr hb hr hm = by_tells q _ _ _ (deeper _ okr (let e : n + k < b = omega arith in e))
        ends_view q n k g u p lost t rest (Opens ts) x l oks okr hb hr hm = by_goes q _ _ _ (opened _ (each_append Ok ts rest oks okr) hb hr (let e : total w (ts ++ rest) < m = omega (arith, total_append w ts rest) in e))
        ends_view q n k g u zero lost t rest (Parts ts) x l oks okr hb hr hm = by_stops q Deep
        ends_view q n k g u (suc p) lost t rest (Parts ts) x l oks okr hb hr hm = by_goes q _ _ _ (parted _ (each_append Ok ts rest oks okr) hb (let e : p < r = omega arith in e))
        ends_view q zero k g u p lost t rest (Takes name ts) x l oks okr hb hr hm = by_stops q Steps
        ends_view q (suc n) k g u p lost t rest (Takes name ts) x l oks okr hb hr hm = by_goes q _ _ _ (deeper _ (each_append Ok ts rest oks okr) (let e : n + suc k < b = omega arith in e))
        ends_view q zero k g u p lost t rest (Cuts o ts) x l oks okr hb hr hm = by_stops q Steps
        ends_view q (suc n) k g u p lost t rest (Cuts o ts) x l oks okr hb hr hm =
            by_goes q _ _ _ (deeper _ (each_append Ok ts (oldest o rest) oks (each_drop Ok (length rest - o) rest okr)) (let e : n + suc k < b = omega arith in e))
        ends_view q zero k g u p lost t rest (Denies t' f ts) x l oks okr hb hr hm = by_stops q Steps
        ends_view q (suc n) k g u p lost t rest (Denies t' f ts) x l oks okr hb hr hm = by_denial q n k g u lost t' f ts rest oks.0 oks.1 okr (omega arith)
        ends_view q n k g u p lost t rest (Halts e) x l oks okr hb hr hm = by_stops q e
        ends_view q n k g u p lost t rest Lacks x l oks okr hb hr hm = absurd (x tt)

        -- with enough steps for the look
        ends_task : (q n k g u p : ℕ) (lost : Bool) (t : T) (rest : List T) → Ok t → EachOf Ok rest → n + suc k < suc b → p < suc r → w t + total w rest < suc m → BothEndBy q (λ c go. move_view go n k g u p lost rest (looks c (length rest) t))
        unfolding BothEndBy EndsBy InnerEndsBy
        ends_task q n k g u p lost t rest okt okr hb hr hm =
            let c = ok.enough (length rest) t okt in
            let v = looks c.0 (length rest) t in
            let x = ends_view q n k g u p lost t rest v c.1 (falls c.0 (length rest) t) (ok.leaves c.0 (length rest) t okt) okr hb hr hm in
            let same : (i : ℕ) → c.0 ≤ i → looks i (length rest) t ≡ v = λ i l. ok.more c.0 i l (length rest) t c.1 in (
              (
                c.0 + x.0.0,
                λ i j o l l' l''. let l1 : c.0 ≤ i = omega arith in let l2 : x.0.0 ≤ i = omega arith in let l3 : x.0.0 ≤ j = omega arith
                    in let l4 : x.0.0 ≤ o = omega arith in let y = x.0.1 i j o l2 l3 l4 in
                    (y.0, ap (λ z. (told_after (run (looks i) j o) (move_view (inner (looks i) j) n k g u p lost rest z)).ending) (same i l1) ∙ y.1),
              ),
              λ f. let y = x.1 f in (
                c.0 + y.0,
                y.1,
                y.2,
                λ i j l l'. let l1 : c.0 ≤ i = omega arith in let l2 : y.0 ≤ i = omega arith in let l3 : y.0
                    ≤ j = omega arith in ap (λ z. inner_after (inner (looks i) j f) f q (move_view (inner (looks i) j) n k g u p lost rest z))
                    (same i l1) ∙ y.3 i j l2 l3,
              ),
            )

        ends_at : (q n k g u p : ℕ) (lost : Bool) (stack : List T) → EachOf Ok stack → n + k < suc b → p < suc r → total w stack < suc m → BothEndBy q (λ c go. move_at go (looks c) n k g u p lost stack)
        ends_at q n zero g u p lost stack oks hb hr hm = by_stops q Enough
        ends_at q n (suc k) g u p true [] oks hb hr hm = by_stops q NoMoreCut
        ends_at q n (suc k) g u p false [] oks hb hr hm = by_stops q NoMore
        ends_at q n (suc k) g u p true (t ∷ rest) oks hb hr hm = ends_task q n k g u p true t rest oks.0 oks.1 hb hr hm
        ends_at q n (suc k) g u p false (t ∷ rest) oks hb hr hm = ends_task q n k g u p false t rest oks.0 oks.1 hb hr hm

      ends_weight : (m : ℕ) (s : State T) → EachOf Ok s.stack → s.steps + s.answers < suc b → s.row < suc r → total w s.stack < m → BothEnd s
      unfolding BothEnd BothEndBy Ends InnerEnds EndsBy InnerEndsBy
      ends_weight zero s oks hb hr hm = absurd (omega arith)
      ends_weight (suc m) s oks hb hr hm =
          let x = ends_at m (λ y oky hb' hr' hm'. ends_weight m y oky hb' hr' hm') s.row s.steps s.answers s.given s.rows s.row s.lost s.stack oks hb hr hm in
          ((suc x.0.0, λ i j k l l' l''. more_moves x.0.0 i j k s l l' l'' x.0.1), λ f. let y = x.1 f in (suc y.0, y.1, y.2, λ i j l l'. inner_moves y.0 i j f s y.1 l l' y.3))

    ends_row : (r : ℕ) (s : State T) → EachOf Ok s.stack → s.steps + s.answers < suc b → s.row < r → BothEnd s
    ends_row zero s oks hb hr = absurd (omega arith)
    ends_row (suc r) s oks hb hr = ends_weight r (λ x okx hb' hr'. ends_row r x okx hb' hr') (suc (total w s.stack)) s oks hb hr (let q : total w s.stack < suc (total w s.stack) = omega arith in q)

  ends_bound : (b : ℕ) (s : State T) → EachOf Ok s.stack → s.steps + s.answers < b → BothEnd s
  ends_bound zero s oks hb = absurd (omega arith)
  ends_bound (suc b) s oks hb = ends_row b (λ x okx hb'. ends_bound b x okx hb') (suc s.row) s oks hb (let q : s.row < suc s.row = omega arith in q)

  -- with enough of everything the run ends
  pub ends : (s : State T) → EachOf Ok s.stack → (n : ℕ) × ((i j k : ℕ) → n ≤ i → n ≤ j → n ≤ k → (e : Ending) × ((run (looks i) j k s).ending ≡ Some e))
  unfolding BothEnd Ends
  ends s oks = (ends_bound (suc (s.steps + s.answers)) s oks (let q : s.steps + s.answers < suc (s.steps + s.answers) = omega arith in q)).0

each_any : {T : Type 0} (ts : List T) → EachOf (λ t. Unit {0}) ts
each_any [] = tt
each_any (t ∷ ts) = (tt, each_any ts)

pub leaves_any : {T A : Type 0} (v : View T A) → Leaves (λ t. Unit {0}) v
leaves_any (Gives a) = tt
leaves_any (Opens ts) = each_any ts
leaves_any (Parts ts) = each_any ts
leaves_any (Takes name ts) = each_any ts
leaves_any (Cuts m ts) = each_any ts
leaves_any (Denies t f ts) = (tt, each_any ts)
leaves_any (Halts e) = tt
leaves_any Lacks = tt

-- of a look that never lacks steps
module _ {T A : Type 0} (look : ℕ → T → View T A) (w : T → ℕ) (falls : Falls look w) (full : (height : ℕ) (t : T) → IsLack (look height t) → ⊥) where
  pub ends_full : (s : State T) → (n : ℕ) × (e : Ending) × ((run look n n s).ending ≡ Some e)
  ends_full s =
      let x = ends (λ n. look) w (λ n. falls) (λ t. Unit {0}) (record { more = λ n m l h t z. refl; enough = λ h t o. (0, full h t); leaves = λ n h t o. leaves_any (look h t) }) s (each_any s.stack) in
      let l : x.0 ≤ x.0 = omega arith in
      let y = x.1 x.0 x.0 x.0 l l l in
      (x.0, y.0, y.1)
