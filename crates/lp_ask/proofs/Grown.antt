-- What an answered query leaves in the output, whole or broken off, was appended to it.
use Rattle.std.proofs.Common.{◌≡◌, Bool, ◌≢◌, ◌∙◌, ℕ, List, [], Option, ◌++◌, Result, Ok, Err, subst, sym, refl, ap, true}
use Rattle.lp_base.specs.Counts.{Counts}
use Rattle.lp_base.specs.declared.status.Status.{Status}
use Rattle.lp_base.specs.declared.status.Status.TheVariants as variant
use Rattle.lp_model.specs.Shown.{Entry}
use Rattle.lp_model.specs.declared.ending.Ending.{Ending}
use Rattle.lp_lines.specs.Ends.{Grows}
use Rattle.lp_lines.proofs.Appending.{appends_nothing, grows_both, prefix_grows}
use Rattle.lp_lines.proofs.Counting.{same_count}
use Rattle.lp_answers.specs.Texts.{last_text}
use Rattle.lp_answers.specs.declared.stopped.Written.{Written}
use Rattle.lp_query.specs.declared.fault.AskRefusal.{AskRefusal}
use Rattle.lp_query.specs.declared.fault.AskRefusal.TheVariants.{Write, Memory}
use Rattle.lp_query.specs.Outcomes.{Answered, Broke}
use Rattle.lp_lines.specs.Lines.{ending_status, is_of_search}
use Rattle.lp_lines.proofs.Statuses.{ending_is, search_not_fault}
use Rattle.lp_ask.specs.Allowed.{IsText}
use Rattle.lp_ask.proofs.Coming.{text_not_write}

-- where nothing changed
pub same_grows : (old new : Option (List ℕ)) → new ≡ old → Grows old new
same_grows old new e = subst (λ w. Grows old w) (sym e) ([], appends_nothing old)

module _ (es : List Entry) (ns : List (List ℕ)) (watched : Bool) (most : ℕ) (old new : Option (List ℕ)) where
  pub answered_grows : (w : Written) → Answered es ns watched most old new w → Grows old new
  answered_grows w a = (a.1.1.text ++ last_text w.ending a.0, a.1.1.appended)

  pub write_grows : (e : AskRefusal) → e ≡ Write → Broke es ns watched most old new e → Grows old new
  write_grows e z b = let a = subst (Broke es ns watched most old new) z b in prefix_grows old new (a.text ++ a.next) a.appended

  pub memory_grows : (e : AskRefusal) (last : Option (List ℕ)) → e ≡ Memory → Broke es ns watched most old new e → Grows new last → Grows old last
  memory_grows e last z b g = let a = subst (Broke es ns watched most old new) z b in grows_both old new last (a.1.1.text, a.1.1.appended) g

-- counts of failed pieces, by the status
pub status_counts : (T : Type 0) (t : T) (status : Status) (o n : ℕ) → (status ≡ variant.WriteFault → ⊥) → Counts (◌≡◌ {A = Result T AskRefusal} (Ok t) (Err Write)) o n → Counts (status ≡ variant.WriteFault) o n
status_counts T t status o n h c = record { never_falls = c.never_falls; rises_only_then = λ l. absurd (let z = c.rises_only_then l in cc); risen = λ q. absurd (h q) }

pub write_counts : (T : Type 0) (e : AskRefusal) (o n : ℕ) → e ≡ Write → Counts (◌≡◌ {A = Result T AskRefusal} (Err e) (Err Write)) o n → Counts (◌≡◌ {A = Status} variant.WriteFault variant.WriteFault) o n
write_counts T e o n z c = record { never_falls = c.never_falls; rises_only_then = λ l. refl; risen = λ q. c.risen (ap Err z) }

pub memory_counts : (T : Type 0) (e : AskRefusal) (P : Type 0) (o m n : ℕ) → e ≡ Memory → Counts (◌≡◌ {A = Result T AskRefusal} (Err e) (Err Write)) o m → Counts P m n → Counts P o n
memory_counts T e P o m n z c d = subst (λ k. Counts P k n) (same_count (◌≡◌ {A = Result T AskRefusal} (Err e) (Err Write)) o m c (λ q. let y : e ≡ Write = cc in let w : Memory ≡ Write = sym z ∙ y in absurd (cc))) d

pub text_counts : (T : Type 0) (e : AskRefusal) (o m : ℕ) → IsText e → Counts (◌≡◌ {A = Result T AskRefusal} (Err e) (Err Write)) o m → m ≡ o
text_counts T e o m t c = same_count (◌≡◌ {A = Result T AskRefusal} (Err e) (Err Write)) o m c (λ q. let y : e ≡ Write = cc in text_not_write e t y)

-- the status of an ending is one of a search
pub ending_search : (e : Ending) (status : Status) → status ≡ ending_status e → status ≢ variant.WriteFault → is_of_search status ≡ true
ending_search e status h n = subst (λ s. is_of_search s ≡ true) (sym h) (ending_is e)

pub ending_no_fault : (e : Ending) (status : Status) → status ≡ ending_status e → status ≡ variant.WriteFault → ⊥
ending_no_fault e status h = search_not_fault status (subst (λ s. is_of_search s ≡ true) (sym h) (ending_is e))
