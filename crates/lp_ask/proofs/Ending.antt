-- What a session leaves, and the status of its run.
use Rattle.std.proofs.Common.{◌≡◌, ◌≢◌, ◌<◌, ◌≤◌, ℕ, List, ◌++◌, Option, Result, Ok, Err, true, refl, sym, subst}
use Rattle.std.specs.Prelude.{IfOk, IfErr}
use Rattle.lp_base.specs.Counts.{Counts, HasRisen}
use Rattle.lp_base.specs.declared.status.Status.{Status}
use Rattle.lp_base.specs.declared.status.Status.TheVariants as variant
use Rattle.lp_lines.specs.Ends.{Grows}
use Rattle.lp_lines.specs.Lines.{is_of_search}
use Rattle.lp_lines.proofs.Appending.{prefix_grows}
use Rattle.lp_lines.proofs.Counting.{same_count}
use Rattle.lp_lines.proofs.Statuses.{done_of_search, memory_of_search}
use Rattle.lp_session.specs.declared.serving.SessionRefusal.{SessionRefusal}
use Rattle.lp_session.specs.declared.serving.SessionRefusal.TheVariants.{Write, Memory}
use Rattle.lp_session.specs.declared.serving.Summary.{Summary}
use Rattle.lp_session.specs.Said.{summary_line}
use Rattle.lp_session.specs.Replies.{Meaning}
use Rattle.lp_session.specs.Served.{IsSession, IsBrokenOff}
use Rattle.lp_ask.specs.Ended.{EndsSo}

pub served_grows : (M : Meaning) (lines : List ℕ) (old new : Option (List ℕ)) (r : Result Summary SessionRefusal) → IfOk r (IsSession M lines old new) → IfErr r (IsBrokenOff M lines old new) → Grows old new
served_grows M lines old new (Ok s) h k = (h.text ++ summary_line s.queries s.answers, h.appended)
served_grows M lines old new (Err Write) h k = prefix_grows old new (k.before ++ k.text) k.appended
served_grows M lines old new (Err Memory) h k = (k.before ++ k.text, k.appended)

pub ends_search : (r : Result Summary SessionRefusal) (before after : ℕ) (status : Status) → EndsSo r before after status → status ≢ variant.WriteFault → is_of_search status ≡ true
ends_search (Ok s) before after status h n = done_of_search status (λ z. h.0) n
ends_search (Err Write) before after status h n = absurd (n h.0)
ends_search (Err Memory) before after status h n = memory_of_search status h.0 n

pub ends_counts : (r : Result Summary SessionRefusal) (first before after : ℕ) (status : Status) → Counts (r ≡ Err Write) first before → EndsSo r before after status → Counts (status ≡ variant.WriteFault) first after
ends_counts (Ok s) first before after status c h =
    let e = h.1 in
    let d = h.0 in
    record { never_falls = subst (λ n. first ≤ n) (sym e) c.never_falls; rises_only_then = λ l. absurd (let z = c.rises_only_then (subst (λ n. first < n) e l) in cc); risen = λ q. let z : ◌≡◌ {A = Status} variant.Done variant.WriteFault = cc in absurd (cc) }
ends_counts (Err Write) first before after status c h =
    record { never_falls = subst (λ n. first ≤ n) (sym h.1) c.never_falls; rises_only_then = λ l. h.0; risen = λ q. subst (HasRisen first) (sym h.1) (c.risen refl) }
ends_counts (Err Memory) first before after status c h =
    subst (λ n. Counts (status ≡ variant.WriteFault) n after) (same_count (◌≡◌ {A = Result Summary SessionRefusal} (Err Memory) (Err Write)) first before c (λ e. absurd (cc))) h.1
