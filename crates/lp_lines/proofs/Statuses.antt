-- The status of a run, and the counts that stand behind it.
use Rattle.std.proofs.Common.{◌≡◌, ◌≢◌, ℕ, refl, sym, ap, ◌∙◌, inl, inr, arith}
use Rattle.std.specs.Prelude.{List, Option, Some, true, false, ◌⊎◌}
use Rattle.lp_base.specs.Written.{Appends}
use Rattle.lp_base.specs.declared.status.Status.{Status}
use Rattle.lp_base.specs.declared.status.Status.TheVariants.{Done, Usage, Source, Image, Steps, Flexible, Arithmetic, Deep, ReadFault, WriteFault, Memory, Limit, Missing, OpenNot, No}
use Rattle.lp_model.specs.declared.ending.Ending.{Ending}
use Rattle.lp_model.specs.declared.ending.Ending.TheVariants as ending
use Rattle.lp_lines.specs.Ends.{Caused, CausedLong}
use Rattle.lp_lines.specs.Lines.{ending_status, is_of_search}
use Rattle.lp_lines.specs.Looked.{Causes, CausesLong}
use Rattle.lp_lines.specs.Refusals.{line_of, status_of}
use Rattle.lp_lines.specs.declared.refusal.Refusal.{Refusal}
use Rattle.lp_lines.specs.declared.refusal.Refusal.TheVariants as refusal

pub ending_is : (e : Ending) → is_of_search (ending_status e) ≡ true
unfolding ending_status is_of_search
ending_is ending.NoMore = refl
ending_is ending.NoMoreCut = refl
ending_is ending.Enough = refl
ending_is ending.Steps = refl
ending_is ending.Flexible = refl
ending_is (ending.Arithmetic f) = refl
ending_is ending.OpenNot = refl
ending_is ending.Deep = refl

pub is_fault : (s : Status) → (s ≡ WriteFault) ⊎ (s ≢ WriteFault)
is_fault WriteFault = inl refl
is_fault Done = inr (λ e. cc)
is_fault Usage = inr (λ e. cc)
is_fault Source = inr (λ e. cc)
is_fault Image = inr (λ e. cc)
is_fault Steps = inr (λ e. cc)
is_fault Flexible = inr (λ e. cc)
is_fault OpenNot = inr (λ e. cc)
is_fault Arithmetic = inr (λ e. cc)
is_fault Deep = inr (λ e. cc)
is_fault ReadFault = inr (λ e. cc)
is_fault Memory = inr (λ e. cc)
is_fault Limit = inr (λ e. cc)
is_fault Missing = inr (λ e. cc)
is_fault No = inr (λ e. cc)

-- a count that did not move, in a run that does not end so
pub still : (result said : Status) (n : ℕ) → (result ≡ said → ⊥) → Caused result said n n
still result said n never = record { never_falls = omega arith; rises_only_then = λ l. absurd (omega arith); risen = λ e. absurd (never e) }

-- a count behind a refusal that was then told, or not
pub told_count : (r : Refusal) (result wanted : Status) (old new : ℕ) → Causes wanted (Some r) old new → wanted ≢ WriteFault → wanted ≢ Memory → (result ≢ WriteFault → result ≡ status_of r) → Caused result wanted old new
told_count (refusal.Line said line) result wanted old new c other other' kept = record {
  never_falls = c.never_falls;
  rises_only_then = λ l. elim (c.rises_only_then l) [
    | inl x ↦ elim (is_fault result) [ inl f ↦ inr (inr f) | inr n ↦ inl (kept n ∙ x) ]
    | inr x ↦ absurd x
  ];
  risen = λ e. c.risen (sym (kept (λ f. other (sym e ∙ f))) ∙ e);
}
told_count refusal.Memory result wanted old new c other other' kept = record {
  never_falls = c.never_falls;
  rises_only_then = λ l. elim (is_fault result) [ inl f ↦ inr (inr f) | inr n ↦ inr (inl (kept n)) ];
  risen = λ e. absurd (other' (sym e ∙ kept (λ f. other (sym e ∙ f))));
}

-- the count of long files, beside what was written
pub told_long : (r : Refusal) (result : Status) (old new : ℕ) (a b : Option (List ℕ)) → CausesLong (Some r) old new → (result ≢ WriteFault → (result ≡ status_of r) × Appends a b (line_of r)) → CausedLong result a b old new
told_long (refusal.Line said line) result old new a b c kept = record {
  never_falls = c.never_falls;
  rises_only_then = λ l. elim (c.rises_only_then l) [
    | inl x ↦ elim (is_fault result) [ inl f ↦ inr (inr f) | inr n ↦ inl ((kept n).0 ∙ x) ]
    | inr x ↦ absurd x
  ];
  risen = λ e.
      let n : result ≢ WriteFault = λ f. cc in
      elim (c.risen (sym (kept n).0 ∙ e)) [ inl h ↦ inl h | inr o ↦ inr (line.items, (o, (kept n).1)) ];
}
told_long refusal.Memory result old new a b c kept = record {
  never_falls = c.never_falls;
  rises_only_then = λ l. elim (is_fault result) [ inl f ↦ inr (inr f) | inr n ↦ inr (inl (kept n).0) ];
  risen = λ e. let n : result ≢ WriteFault = λ f. cc in let m : result ≡ Memory = (kept n).0 in absurd (cc);
}

-- a status of a search is none of the others
pub other_than : (status wanted : Status) → (status ≢ WriteFault → is_of_search status ≡ true) → wanted ≢ WriteFault → is_of_search wanted ≡ false → status ≡ wanted → ⊥
other_than status wanted k other is e =
    let s : is_of_search wanted ≡ true = ap is_of_search (sym e) ∙ k (λ f. other (sym e ∙ f)) in
    cc

module _ (status : Status) (k : status ≢ WriteFault → is_of_search status ≡ true) where
  pub not_usage : status ≡ Usage → ⊥
  unfolding is_of_search
  not_usage = other_than status Usage k (λ e. cc) refl

  pub not_read_fault : status ≡ ReadFault → ⊥
  unfolding is_of_search
  not_read_fault = other_than status ReadFault k (λ e. cc) refl

  pub not_missing : status ≡ Missing → ⊥
  unfolding is_of_search
  not_missing = other_than status Missing k (λ e. cc) refl

  pub not_source : status ≡ Source → ⊥
  unfolding is_of_search
  not_source = other_than status Source k (λ e. cc) refl

  pub not_limit : status ≡ Limit → ⊥
  unfolding is_of_search
  not_limit = other_than status Limit k (λ e. cc) refl

pub long_still : (result : Status) (n : ℕ) (a b : Option (List ℕ)) → (result ≡ Limit → ⊥) → CausedLong result a b n n
long_still result n a b never = record { never_falls = omega arith; rises_only_then = λ l. absurd (omega arith); risen = λ e. absurd (never e) }

-- a line that was written with one status ends the run with no other
pub not_otherwise : (result said wanted : Status) → (result ≢ WriteFault → result ≡ said) → wanted ≢ WriteFault → said ≢ wanted → result ≡ wanted → ⊥
not_otherwise result said wanted kept other apart e = apart (sym (kept (λ f. other (sym e ∙ f))) ∙ e)

-- what is written behind a search ends as a search does
pub said_of_search : (result status : Status) → is_of_search status ≡ true → (result ≢ WriteFault → result ≡ status) → result ≢ WriteFault → is_of_search result ≡ true
said_of_search result status h kept n = ap is_of_search (kept n) ∙ h

pub memory_of_search : (result : Status) → (result ≢ WriteFault → result ≡ Memory) → result ≢ WriteFault → is_of_search result ≡ true
unfolding is_of_search
memory_of_search result kept n = said_of_search result Memory refl kept n

pub done_is : is_of_search Done ≡ true
unfolding is_of_search
done_is = refl

pub done_of_search : (result : Status) → (result ≢ WriteFault → result ≡ Done) → result ≢ WriteFault → is_of_search result ≡ true
unfolding is_of_search
done_of_search result kept n = said_of_search result Done refl kept n

of_search : (status wanted : Status) → is_of_search status ≡ true → is_of_search wanted ≡ false → status ≡ wanted → ⊥
of_search status wanted h is e =
    let s : is_of_search wanted ≡ true = ap is_of_search (sym e) ∙ h in
    cc

-- no search ends as a fault of the output
pub search_not_fault : (status : Status) → is_of_search status ≡ true → status ≢ WriteFault
unfolding is_of_search
search_not_fault status h = of_search status WriteFault h refl
