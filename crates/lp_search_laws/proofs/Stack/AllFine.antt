-- Each answer of a run is as it should be, where looks keep what the tasks should be.
use Rattle.std.proofs.Common.{ℕ, zero, suc, List, [], ◌∷◌, length}
use Rattle.std.specs.Prelude.{◌-◌, Bool, true, false}
use Rattle.lp_model.specs.Skeleton.{View, Gives, Opens, Parts, Takes, Cuts, Denies, Halts, Lacks, State, Told, Inner, Refuted, Held, Broke, Lasts, starts_within, oldest, move_denied, move_view, move_at, inner, told_after, run}
use Rattle.lp_lemmas.specs.Each.{EachOf}
use Rattle.lp_lemmas.proofs.Each.{each_append, each_drop}

-- what a view leaves, and what it gives
abbrev pub LeavesFine : {Task Answer : Type 0} → (Task → Type 0) → (Answer → Type 0) → View Task Answer → Type 0
LeavesFine Ok Fine (Gives a) = Fine a
LeavesFine Ok Fine (Opens ts) = EachOf Ok ts
LeavesFine Ok Fine (Parts ts) = EachOf Ok ts
LeavesFine Ok Fine (Takes name ts) = EachOf Ok ts
LeavesFine Ok Fine (Cuts m ts) = EachOf Ok ts
LeavesFine Ok Fine (Denies t is_final ts) = EachOf Ok ts
LeavesFine Ok Fine (Halts e) = Unit {0}
LeavesFine Ok Fine Lacks = Unit {0}

module _ {Task Answer : Type 0} (look : ℕ → Task → View Task Answer) (j : ℕ) (Ok : Task → Type 0) (Fine : Answer → Type 0) (stays : (height : ℕ) (t : Task) → Ok t → LeavesFine Ok Fine (look height t)) where
  module _ (go : State Task → Told Answer) (ih : (s : State Task) → EachOf Ok s.stack → EachOf Fine (go s).answers) where
    fine_denied : (n k g u : ℕ) (lost' : Bool) (ts rest : List Task) (r : Inner) → EachOf Ok ts → EachOf Ok rest → EachOf Fine (told_after go (move_denied n k g u lost' ts rest r)).answers
    fine_denied n k g u lost' ts rest (Refuted c ns p) ok oks = ih _ (each_append Ok ts rest ok oks)
    fine_denied n k g u lost' ts rest (Held c ns p) ok oks = ih _ oks
    fine_denied n k g u lost' ts rest (Broke c ns x) ok oks = tt
    fine_denied n k g u lost' ts rest (Lasts c ns) ok oks = tt

    fine_view : (n k g u p : ℕ) (lost' : Bool) (rest : List Task) (v : View Task Answer) → LeavesFine Ok Fine v → EachOf Ok rest → EachOf Fine (told_after go (move_view (inner look j) n k g u p lost' rest v)).answers
    fine_view n k g u p lost' rest (Gives a) ok oks = (ok, ih _ oks)
    fine_view n k g u p lost' rest (Opens ts) ok oks = ih _ (each_append Ok ts rest ok oks)
    fine_view n k g u zero lost' rest (Parts ts) ok oks = tt
    fine_view n k g u (suc p) lost' rest (Parts ts) ok oks = ih _ (each_append Ok ts rest ok oks)
    fine_view zero k g u p lost' rest (Takes name ts) ok oks = tt
    fine_view (suc n) k g u p lost' rest (Takes name ts) ok oks = ih _ (each_append Ok ts rest ok oks)
    fine_view zero k g u p lost' rest (Cuts m ts) ok oks = tt
    fine_view (suc n) k g u p lost' rest (Cuts m ts) ok oks = ih _ (each_append Ok ts (oldest m rest) ok (each_drop Ok (length rest - m) rest oks))
    fine_view zero k g u p lost' rest (Denies w f ts) ok oks = tt
    fine_view (suc n) k g u p lost' rest (Denies w f ts) ok oks = fine_denied n k g u lost' ts rest (inner look j f (starts_within u w n 1)) ok oks
    fine_view n k g u p lost' rest (Halts e) ok oks = tt
    fine_view n k g u p lost' rest Lacks ok oks = tt

    fine_at : (n k g u p : ℕ) (lost' : Bool) (stack : List Task) → EachOf Ok stack → EachOf Fine (told_after go (move_at (inner look j) look n k g u p lost' stack)).answers
    fine_at n zero g u p lost' stack oks = tt
    fine_at n (suc k) g u p true [] oks = tt
    fine_at n (suc k) g u p false [] oks = tt
    fine_at n (suc k) g u p true (t ∷ rest) oks = fine_view n k g u p true rest (look (length rest) t) (stays (length rest) t oks.0) oks.1
    fine_at n (suc k) g u p false (t ∷ rest) oks = fine_view n k g u p false rest (look (length rest) t) (stays (length rest) t oks.0) oks.1

  pub all_fine : (n : ℕ) (s : State Task) → EachOf Ok s.stack → EachOf Fine (run look j n s).answers
  all_fine zero s oks = tt
  all_fine (suc n) s oks = fine_at (run look j n) (λ s' oks'. all_fine n s' oks') s.steps s.answers s.given s.rows s.row s.lost s.stack oks
