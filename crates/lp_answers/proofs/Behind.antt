-- Answers written one behind the other.
use Rattle.std.proofs.Common.{◌≡◌, Bool, true, false, ℕ, suc, ◌≤◌, List, [], ◌++◌, Option, Result, Ok, Err, refl, sym, ap, subst, inr}
use Rattle.std.specs.Prelude.{IfOk, IfErr, IsErrOf}
use Rattle.lp_base.specs.Written.{Appends, AppendsPrefix}
use Rattle.lp_model.specs.Shown.{Entry}
use Rattle.lp_answers.specs.declared.stopped.Written.{Written}
use Rattle.lp_answers.specs.declared.stopped.Stopped.{Stopped}
use Rattle.lp_answers.specs.declared.stopped.Stopped.TheVariants.{Write, Memory}
use Rattle.lp_model.specs.declared.ending.Ending.{Ending}
use Rattle.lp_answers.specs.Texts.{IsAnswer, no_answer, one_more, last_text, Wrote, WroteAll, IsNext, WroteCut, Stopping, MayReport, reports_in}
use Rattle.lp_answers.proofs.Appending.{appends_nothing, appends_both, prefix_behind}

module _ (es : List Entry) (ns : List (List ℕ)) where
  pub wrote_nothing : (a : Option (List ℕ)) → Wrote es ns 0 a a
  wrote_nothing a = record { text = []; answers = no_answer; appended = appends_nothing a }

  pub wrote_more : (k n : ℕ) (a b c : Option (List ℕ)) (lines : List ℕ) → n ≡ suc k → Wrote es ns k a b → IsAnswer es ns n lines → Appends b c lines → Wrote es ns n a c
  wrote_more k n a b c lines e w l h = subst (λ m. Wrote es ns m a c) (sym e) (record {
    text = w.text ++ lines;
    answers = one_more k w.text lines (w.text ++ lines) w.answers (subst (λ m. IsAnswer es ns m lines) e l) refl;
    appended = appends_both a b c w.text lines w.appended h;
  })

  pub wrote_all : (most : ℕ) (reports : List ℕ) (a b c : Option (List ℕ)) (w : Written) → w.answers ≤ most → Wrote es ns w.answers a b → Appends b c (last_text w.ending reports) → WroteAll es ns most reports a c w
  wrote_all most reports a b c v few w h = record {
    few = few;
    text = w.text;
    answers = w.answers;
    appended = appends_both a b c w.text (last_text v.ending reports) w.appended h;
  }

  pub wrote_cut : (may : List ℕ → Type 0) (k most : ℕ) (a b c : Option (List ℕ)) (next : List ℕ) → k ≤ most → Wrote es ns k a b → IsNext es ns may k next → AppendsPrefix b c next → WroteCut es ns may most a c
  wrote_cut may k most a b c next few w n h = record {
    count = k;
    few = few;
    text = w.text;
    answers = w.answers;
    next = next;
    is_next = n;
    appended = prefix_behind a b c w.text next w.appended h;
  }

  -- behind so many answers the writing of the last line stopped
  pub end_stopped : (may : List ℕ → Type 0) (k most : ℕ) (a b c : Option (List ℕ)) (e : Ending) (reports : List ℕ) (s : Stopped) → may reports → k ≤ most → Wrote es ns k a b
      → (s ≡ Write → AppendsPrefix b c (last_text e reports)) → (s ≡ Memory → c ≡ b) → Stopping es ns may most a c s
  end_stopped may k most a b c e reports Write r few w h m = wrote_cut may k most a b c (last_text e reports) few w (inr (e, (reports, (r, refl)))) (h refl)
  end_stopped may k most a b c e reports Memory r few w h m = (k, (few, subst (λ o. Wrote es ns k a o) (sym (m refl)) w))

  pub ended_all : (k most : ℕ) (reports : List ℕ) (a b c : Option (List ℕ)) (r : Result Written Stopped) → k ≤ most → Wrote es ns k a b
      → IfOk r (λ w. (w.answers ≡ k) × Appends b c (last_text w.ending reports)) → IfOk r (WroteAll es ns most reports a c)
  ended_all k most reports a b c (Ok w) few wrote (e, h) = wrote_all most reports a b c w (subst (λ n. n ≤ most) (sym e) few) (subst (λ n. Wrote es ns n a b) (sym e) wrote) h
  ended_all k most reports a b c (Err s) few wrote h = tt

  pub ended_stopped : (may : List ℕ → Type 0) (k most : ℕ) (a b c : Option (List ℕ)) (e : Ending) (reports : List ℕ) (r : Result Written Stopped) → may reports → k ≤ most → Wrote es ns k a b
      → (IsErrOf r Write → AppendsPrefix b c (last_text e reports)) → (IsErrOf r Memory → c ≡ b) → IfErr r (Stopping es ns may most a c)
  ended_stopped may k most a b c e reports (Ok w) u few wrote h m = tt
  ended_stopped may k most a b c e reports (Err s) u few wrote h m = end_stopped may k most a b c e reports s u few wrote (λ x. h (ap Err x)) (λ x. m (ap Err x))

pub may_report : (watched : Bool) (reports : List ℕ) → MayReport watched (reports_in watched reports)
may_report true reports = λ e. absurd (cc)
may_report false reports = λ e. refl
