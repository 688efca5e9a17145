-- Soundness and exhaustion of a search over a stack, for every faithful look: by induction on the moves, since the solutions of a
-- task are those of what it turns out to be. After a cut that removed something the search never ends with `NoMore`.
use Rattle.std.proofs.Common.{◌≡◌, ℕ, zero, suc, List, [], ◌∷◌, Some, inl, inr, refl, sym, ap, subst, arith, length, ◌≤◌, ◌<◌}
use Rattle.std.specs.Prelude.{◌⊎◌, ◌-◌, Bool, true, false, drop, nat_lt}
use Rattle.std.proofs.lemmas.Bool.{cases_lt, lt-ltb, or_right}
use Rattle.lp_model.specs.declared.ending.Ending.TheVariants.{NoMore}
use Rattle.lp_model.specs.Skeleton.{View, Gives, Opens, Parts, Takes, Cuts, Denies, Halts, Lacks, State, Note, Told, Inner, Refuted, Held, Broke, Lasts, starts_within, oldest, move_denied, move_view, move_at, inner, told_after, run}
use Rattle.lp_model.specs.Faithful.{Covers, AreFine, Denied, Faithful}
use Rattle.lp_lemmas.specs.Each.{AnyOf, EachOf}
use Rattle.lp_search_laws.proofs.Stack.AllFine.{LeavesFine, all_fine}
use Rattle.lp_search_laws.proofs.Stack.Inners.{BreaksRightly, inner_rightly}
use Rattle.lp_lemmas.proofs.Each.{any_append, any_front, any_back, any_drop, each_append, each_drop}

pub oldest_all : {A : Type 0} (m : ℕ) (xs : List A) → length xs ≤ m → oldest m xs ≡ xs
oldest_all m xs h = let e : length xs - m ≡ 0 = omega arith in ap (λ n. drop n xs) e

module _ {Task Answer Inst : Type 0} (look : ℕ → Task → View Task Answer) (b : ℕ) (Ok : Task → Type 0) (Fine : Answer → Type 0) (Sol : Inst → Task → Type 0) (Is : Inst → Answer → Type 0) (f : Faithful look b Ok Fine Sol Is) (j : ℕ) where
  -- an instance of an answer to come is a solution of a task
  module _ (i : Inst) (go : State Task → Told Answer) (ih : (s : State Task) → s.steps ≤ b → EachOf Ok s.stack → AnyOf (Is i) (go s).answers → AnyOf (Sol i) s.stack) where
    sound_denied : (n k g u : ℕ) (lost : Bool) (t : Task) (ts rest : List Task) (r : Inner) →
        ((c p : ℕ) (ns : List Note) → r ≡ Refuted c ns p → AnyOf (Sol i) ts → Sol i t) → n < b → EachOf Ok ts → EachOf Ok rest → AnyOf (Is i)
        (told_after go (move_denied n k g u lost ts rest r)).answers → Sol i t ⊎ AnyOf (Sol i) rest
    sound_denied n k g u lost t ts rest (Refuted c ns p) d hn ok oks h =
        let q : n - c ≤ b = omega arith in
        elim (any_append (Sol i) ts rest (ih _ q (each_append Ok ts rest ok oks) h)) [ inl e ↦ inl (d c p ns refl e) | inr e ↦ inr e ]
    sound_denied n k g u lost t ts rest (Held c ns p) d hn ok oks h = let q : n - c ≤ b = omega arith in inr (ih _ q oks h)
    sound_denied n k g u lost t ts rest (Broke c ns e) d hn ok oks h = absurd h
    sound_denied n k g u lost t ts rest (Lasts c ns) d hn ok oks h = absurd h

    sound_view : (n k g u p : ℕ) (lost : Bool) (t : Task) (rest : List Task) (v : View Task Answer) → (Covers ⊥ Sol Is i v → Sol i t) →
        ((w : Task) (f : Answer → Bool) (ts : List Task) → v ≡ Denies w f ts → Denied look b Sol t w f ts) → AreFine Ok Fine v → n ≤ b → EachOf Ok
        rest → AnyOf (Is i) (told_after go (move_view (inner look j) n k g u p lost rest v)).answers → Sol i t ⊎ AnyOf (Sol i) rest
    sound_view n k g u p lost t rest (Gives a) c d ok hn oks h = elim h [ inl e ↦ inl (c e) | inr e ↦ inr (ih _ hn oks e) ]
    sound_view n k g u p lost t rest (Opens ts) c d ok hn oks h =
        elim (any_append (Sol i) ts rest (ih _ hn (each_append Ok ts rest ok oks) h)) [ inl e ↦ inl (c e) | inr e ↦ inr e ]
    sound_view n k g u zero lost t rest (Parts ts) c d ok hn oks h = absurd h
    sound_view n k g u (suc p) lost t rest (Parts ts) c d ok hn oks h =
        elim (any_append (Sol i) ts rest (ih _ hn (each_append Ok ts rest ok oks) h)) [ inl e ↦ inl (c e) | inr e ↦ inr e ]
    sound_view zero k g u p lost t rest (Takes name ts) c d ok hn oks h = absurd h
    sound_view (suc n) k g u p lost t rest (Takes name ts) c d ok hn oks h =
        let q : n ≤ b = omega arith in
        elim (any_append (Sol i) ts rest (ih _ q (each_append Ok ts rest ok oks) h)) [ inl e ↦ inl (c e) | inr e ↦ inr e ]
    sound_view zero k g u p lost t rest (Cuts m ts) c d ok hn oks h = absurd h
    sound_view (suc n) k g u p lost t rest (Cuts m ts) c d ok hn oks h =
        let q : n ≤ b = omega arith in
        elim (any_append (Sol i) ts (oldest m rest) (ih _ q (each_append Ok ts (oldest m rest) ok (each_drop Ok (length rest - m) rest oks)) h)) [ inl e ↦ inl (c e) | inr e ↦ inr (any_drop (Sol i) (length rest - m) rest e) ]
    sound_view zero k g u p lost t rest (Denies w f ts) c d ok hn oks h = absurd h
    sound_view (suc n) k g u p lost t rest (Denies w f ts) c d ok hn oks h =
        let q : n < b = omega arith in
        let z = d w f ts refl in
        sound_denied n k g u lost t ts rest (inner look j f (starts_within u w n 1)) (λ c' p' ns' e. (z.refuted j n u c' p' ns' q e i).1) q ok oks h
    sound_view n k g u p lost t rest (Halts e) c d ok hn oks h = absurd h
    sound_view n k g u p lost t rest Lacks c d ok hn oks h = absurd h

    sound_at : (n k g u p : ℕ) (lost : Bool) (stack : List Task) → n ≤ b → EachOf Ok stack → AnyOf (Is i) (told_after go (move_at (inner look j) look n k g u p lost stack)).answers → AnyOf (Sol i) stack
    sound_at n zero g u p lost stack hn oks h = absurd h
    sound_at n (suc k) g u p true [] hn oks h = absurd h
    sound_at n (suc k) g u p false [] hn oks h = absurd h
    sound_at n (suc k) g u p true (t ∷ rest) hn oks h =
        sound_view n k g u p true t rest (look (length rest) t) (f.gives (length rest) t oks.0 i) (f.denies (length rest) t oks.0) (f.stays (length rest) t oks.0) hn oks.1 h
    sound_at n (suc k) g u p false (t ∷ rest) hn oks h =
        sound_view n k g u p false t rest (look (length rest) t) (f.gives (length rest) t oks.0 i) (f.denies (length rest) t oks.0) (f.stays (length rest) t oks.0) hn oks.1 h

  pub sound : (n : ℕ) (s : State Task) → s.steps ≤ b → EachOf Ok s.stack → (i : Inst) → AnyOf (Is i) (run look j n s).answers → AnyOf (Sol i) s.stack
  sound zero s hn oks i h = absurd h
  sound (suc n) s hn oks i h = sound_at i (run look j n) (λ s' hn' oks' h'. sound n s' hn' oks' i h') s.steps s.answers s.given s.rows s.row s.lost s.stack hn oks h

  -- what is lost stays lost
  module _ (go : State Task → Told Answer) (ih : (s : State Task) → EachOf Ok s.stack → s.lost ≡ true → (go s).ending ≡ Some NoMore → ⊥) where
    lost_denied : (n k g u : ℕ) (ts rest : List Task) (r : Inner) → BreaksRightly r → EachOf Ok ts → EachOf Ok rest → (told_after go (move_denied n k g u true ts rest r)).ending ≡ Some NoMore → ⊥
    lost_denied n k g u ts rest (Refuted c ns p) d ok oks e = ih _ (each_append Ok ts rest ok oks) refl e
    lost_denied n k g u ts rest (Held c ns p) d ok oks e = ih _ oks refl e
    lost_denied n k g u ts rest (Broke c ns x) d ok oks e = let y : x ≡ NoMore = cc in d y
    lost_denied n k g u ts rest (Lasts c ns) d ok oks e = cc

    lost_view : (n k g u p : ℕ) (t : Task) (rest : List Task) (v : View Task Answer) → AreFine Ok Fine v → EachOf Ok rest → (told_after go (move_view (inner look j) n k g u p true rest v)).ending ≡ Some NoMore → ⊥
    lost_view n k g u p t rest (Gives a) ok oks e = ih _ oks refl e
    lost_view n k g u p t rest (Opens ts) ok oks e = ih _ (each_append Ok ts rest ok oks) refl e
    lost_view n k g u zero t rest (Parts ts) ok oks e = cc
    lost_view n k g u (suc p) t rest (Parts ts) ok oks e = ih _ (each_append Ok ts rest ok oks) refl e
    lost_view zero k g u p t rest (Takes name ts) ok oks e = cc
    lost_view (suc n) k g u p t rest (Takes name ts) ok oks e = ih _ (each_append Ok ts rest ok oks) refl e
    lost_view zero k g u p t rest (Cuts m ts) ok oks e = cc
    lost_view (suc n) k g u p t rest (Cuts m ts) ok oks e = ih _ (each_append Ok ts (oldest m rest) ok (each_drop Ok (length rest - m) rest oks)) refl e
    lost_view zero k g u p t rest (Denies w f ts) ok oks e = cc
    lost_view (suc n) k g u p t rest (Denies w f ts) ok oks e = lost_denied n k g u ts rest (inner look j f (starts_within u w n 1)) (inner_rightly look j f (starts_within u w n 1)) ok oks e
    lost_view n k g u p t rest (Halts x) ok oks e = let y : x ≡ NoMore = cc in ok y
    lost_view n k g u p t rest Lacks ok oks e = cc

    lost_at : (n k g u p : ℕ) (lost : Bool) (stack : List Task) → EachOf Ok stack → lost ≡ true → (told_after go (move_at (inner look j) look n k g u p lost stack)).ending ≡ Some NoMore → ⊥
    lost_at n zero g u p lost stack oks l e = cc
    lost_at n (suc k) g u p true [] oks l e = cc
    lost_at n (suc k) g u p false [] oks l e = cc
    lost_at n (suc k) g u p true (t ∷ rest) oks l e = lost_view n k g u p t rest (look (length rest) t) (f.stays (length rest) t oks.0) oks.1 e
    lost_at n (suc k) g u p false (t ∷ rest) oks l e = cc

  pub lost : (n : ℕ) (s : State Task) → EachOf Ok s.stack → s.lost ≡ true → (run look j n s).ending ≡ Some NoMore → ⊥
  lost zero s oks l e = cc
  lost (suc n) s oks l e = lost_at (run look j n) (λ s' oks' l' e'. lost n s' oks' l' e') s.steps s.answers s.given s.rows s.row s.lost s.stack oks l e

  -- where nothing more is left and nothing was cut away, a solution of a task is an instance of an answer to come
  module _ (i : Inst) (m' : ℕ) (ih : (s : State Task) → s.steps ≤ b → EachOf Ok s.stack → (run look j m' s).ending ≡ Some NoMore → AnyOf (Sol i) s.stack → AnyOf (Is i) (run look j m' s).answers) where
    exhausts_denied : (n k g u : ℕ) (lost' : Bool) (t : Task) (ts rest : List Task) (r : Inner) → BreaksRightly r →
        ((c p : ℕ) (ns : List Note) → r ≡ Refuted c ns p → Sol i t → AnyOf (Sol i) ts) → ((c p : ℕ) (ns : List Note) → r ≡ Held c ns p → Sol i t → ⊥)
        → n < b → EachOf Ok ts → EachOf Ok rest → (told_after (run look j m') (move_denied n k g u lost' ts rest r)).ending ≡ Some NoMore → Sol i t ⊎
        AnyOf (Sol i) rest → AnyOf (Is i) (told_after (run look j m') (move_denied n k g u lost' ts rest r)).answers
    exhausts_denied n k g u lost' t ts rest (Refuted c ns p) w d d' hn ok oks e h =
        let q : n - c ≤ b = omega arith in
        ih _ q (each_append Ok ts rest ok oks) e (elim h [ inl x ↦ any_front (Sol i) ts rest (d c p ns refl x) | inr x ↦ any_back (Sol i) ts rest x ])
    exhausts_denied n k g u lost' t ts rest (Held c ns p) w d d' hn ok oks e h =
        let q : n - c ≤ b = omega arith in
        ih _ q oks e (elim h [ inl x ↦ absurd (d' c p ns refl x) | inr x ↦ x ])
    exhausts_denied n k g u lost' t ts rest (Broke c ns x) w d d' hn ok oks e h = let y : x ≡ NoMore = cc in absurd (w y)
    exhausts_denied n k g u lost' t ts rest (Lasts c ns) w d d' hn ok oks e h = cc

    exhausts_view : (n k g u p : ℕ) (lost' : Bool) (t : Task) (rest : List Task) (v : View Task Answer) → (Sol i t → Covers (Unit {0}) Sol Is i v) →
        ((w : Task) (f : Answer → Bool) (ts : List Task) → v ≡ Denies w f ts → Denied look b Sol t w f ts) → AreFine Ok Fine v → n ≤ b → EachOf Ok
        rest → (told_after (run look j m') (move_view (inner look j) n k g u p lost' rest v)).ending ≡ Some NoMore → Sol i t ⊎ AnyOf (Sol i) rest →
        AnyOf (Is i) (told_after (run look j m') (move_view (inner look j) n k g u p lost' rest v)).answers
    exhausts_view n k g u p lost' t rest (Gives a) c d ok hn oks e h = elim h [ inl x ↦ inl (c x) | inr x ↦ inr (ih _ hn oks e x) ]
    exhausts_view n k g u p lost' t rest (Opens ts) c d ok hn oks e h =
        ih _ hn (each_append Ok ts rest ok oks) e (elim h [ inl x ↦ any_front (Sol i) ts rest (c x) | inr x ↦ any_back (Sol i) ts rest x ])
    exhausts_view n k g u zero lost' t rest (Parts ts) c d ok hn oks e h = cc
    exhausts_view n k g u (suc p) lost' t rest (Parts ts) c d ok hn oks e h =
        ih _ hn (each_append Ok ts rest ok oks) e (elim h [ inl x ↦ any_front (Sol i) ts rest (c x) | inr x ↦ any_back (Sol i) ts rest x ])
    exhausts_view zero k g u p lost' t rest (Takes name ts) c d ok hn oks e h = cc
    exhausts_view (suc n) k g u p lost' t rest (Takes name ts) c d ok hn oks e h =
        let q : n ≤ b = omega arith in
        ih _ q (each_append Ok ts rest ok oks) e (elim h [ inl x ↦ any_front (Sol i) ts rest (c x) | inr x ↦ any_back (Sol i) ts rest x ])
    exhausts_view zero k g u p lost' t rest (Cuts m ts) c d ok hn oks e h = cc
    exhausts_view (suc n) k g u p lost' t rest (Cuts m ts) c d ok hn oks e h =
        let q : n ≤ b = omega arith in
        let ok' = each_append Ok ts (oldest m rest) ok (each_drop Ok (length rest - m) rest oks) in
        elim (cases_lt m (length rest)) [
          | inl l ↦ absurd (lost m' _ ok' (or_right lost' (nat_lt m (length rest)) (lt-ltb m (length rest) l)) e)
          | inr l ↦ ih _ q ok' e (elim h [ inl x ↦ any_front (Sol i) ts (oldest m rest) (c x) | inr x ↦ any_back (Sol i) ts (oldest m rest) (subst (λ xs. AnyOf (Sol i) xs) (sym (oldest_all m rest l)) x) ])
        ]
    exhausts_view zero k g u p lost' t rest (Denies w f ts) c d ok hn oks e h = cc
    exhausts_view (suc n) k g u p lost' t rest (Denies w f ts) c d ok hn oks e h =
        let q : n < b = omega arith in
        let z = d w f ts refl in
        let s = starts_within u w n 1 in
        exhausts_denied n k g u lost' t ts rest (inner look j f s) (inner_rightly look j f s) (λ c' p' ns' e'. (z.refuted j n u c' p' ns' q e' i).0) (λ c' p' ns' e'. z.held j n u c' p' ns' q e' i) q ok oks e h
    exhausts_view n k g u p lost' t rest (Halts x) c d ok hn oks e h = let y : x ≡ NoMore = cc in absurd (ok y)
    exhausts_view n k g u p lost' t rest Lacks c d ok hn oks e h = cc

    exhausts_at : (n k g u p : ℕ) (lost' : Bool) (stack : List Task) → n ≤ b → EachOf Ok stack →
        (told_after (run look j m') (move_at (inner look j) look n k g u p lost' stack)).ending ≡ Some NoMore → AnyOf (Sol i) stack → AnyOf (Is i)
        (told_after (run look j m') (move_at (inner look j) look n k g u p lost' stack)).answers
    exhausts_at n zero g u p lost' stack hn oks e h = cc
    exhausts_at n (suc k) g u p true [] hn oks e h = cc
    exhausts_at n (suc k) g u p false [] hn oks e h = h
    exhausts_at n (suc k) g u p true (t ∷ rest) hn oks e h =
        exhausts_view n k g u p true t rest (look (length rest) t) (f.keeps (length rest) t oks.0 i) (f.denies (length rest) t oks.0) (f.stays (length rest) t oks.0) hn oks.1 e h
    exhausts_at n (suc k) g u p false (t ∷ rest) hn oks e h =
        exhausts_view n k g u p false t rest (look (length rest) t) (f.keeps (length rest) t oks.0 i) (f.denies (length rest) t oks.0) (f.stays (length rest) t oks.0) hn oks.1 e h

  pub exhausts : (n : ℕ) (s : State Task) → s.steps ≤ b → EachOf Ok s.stack → (run look j n s).ending ≡ Some NoMore → (i : Inst) → AnyOf (Sol i) s.stack → AnyOf (Is i) (run look j n s).answers
  exhausts zero s hn oks e i h = cc
  exhausts (suc n) s hn oks e i h = exhausts_at i n (λ s' hn' oks' e' h'. exhausts n s' hn' oks' e' i h') s.steps s.answers s.given s.rows s.row s.lost s.stack hn oks e h

  -- each answer is fine
  leaves_fine : (v : View Task Answer) → AreFine Ok Fine v → LeavesFine Ok Fine v
  leaves_fine (Gives a) h = h
  leaves_fine (Opens ts) h = h
  leaves_fine (Parts ts) h = h
  leaves_fine (Takes name ts) h = h
  leaves_fine (Cuts m ts) h = h
  leaves_fine (Denies w x ts) h = h
  leaves_fine (Halts e) h = tt
  leaves_fine Lacks h = tt

  pub fine : (n : ℕ) (s : State Task) → EachOf Ok s.stack → EachOf Fine (run look j n s).answers
  fine n s oks = all_fine look j Ok Fine (λ height t ok. leaves_fine (look height t) (f.stays height t ok)) n s oks
