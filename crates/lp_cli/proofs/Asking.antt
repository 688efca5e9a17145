-- What is carried out of what the words ask for, and what want of memory leaves of it.
use Rattle.std.proofs.Common.{◌≡◌, ◌≢◌, ℕ, List, ◌++◌, Option, Some, refl, sym, ap, ◌∙◌, subst, inl, inr, Bool, true, false, option_map}
use Rattle.std.specs.Option.{option_and_then}
use Rattle.std.specs.Prelude.{◌⊎◌}
use Rattle.lp_base.specs.Held.{Held}
use Rattle.lp_base.specs.Written.{Appends, AppendsPrefix}
use Rattle.lp_base.specs.declared.status.Status.{Status}
use Rattle.lp_base.specs.declared.status.Status.TheVariants as variant
use Rattle.lp_cli.specs.Does.{Does}
use Rattle.lp_cli.specs.Fulfils.{Fulfils, Solves}
use Rattle.lp_judge.specs.Proofs.{has_file}
use Rattle.lp_lines.proofs.Statuses.{is_fault, not_otherwise}
use Rattle.lp_files.specs.Target.{done_line, ending_of}
use Rattle.lp_lines.specs.Ends.{KeepsFiles}
use Rattle.lp_judge.specs.Proved.{Proves}
use Rattle.lp_lines.specs.Left.{Leaves}
use Rattle.lp_lines.specs.Lines.{memory_line}
use Rattle.lp_lines.specs.declared.refusal.Refusal.TheVariants.{Memory}
use Rattle.lp_load.specs.Placed.{WritesPlaced}
use Rattle.lp_solve.specs.Solved as solved
use Rattle.lp_watch.specs.Seen.{Seen}
use Rattle.lp_words.specs.Asked.{Asked, asked, check, files, lambda, prove, query_image, query_on_texts, session, solve, trial, watches, writes_file, IsCommand, IsWatched, WritesNone}
use Rattle.lp_words.specs.declared.asked.FileCommand.{FileCommand}
use Rattle.lp_words.specs.declared.asked.Options.{Options}

not_true : (b : Bool) → (b ≡ true → ⊥) → b ≡ false
not_true true h = absurd (h refl)
not_true false h = refl

-- what is carried out of what the words ask for
module _ (words : List (List ℕ)) (a : Asked) (is : asked words ≡ Some a) where
  some_is : {x y : Asked} → asked words ≡ Some x → asked words ≡ Some y → x ≡ y
  some_is {x} {y} e f = let s : ◌≡◌ {A = Option Asked} (Some x) (Some y) = sym e ∙ f in cc

  pub command_asked : IsCommand words
  command_asked e = cc

  pub watched_asked : {X : Type 0} {old new : X} → (watches a ≡ true) ⊎ (new ≡ old) → IsWatched words ⊎ (new ≡ old)
  watched_asked h = elim h [ inl w ↦ inl (ap (λ x. option_map watches x) is ∙ ap Some w) | inr e ↦ inr e ]

  module _ {F K : Type 0} {rf ms ov wf : F → ℕ} {held : F → Option Held} {faults : K → ℕ} {written : K → Option (List ℕ)} {seen : List Seen} {f g : F} {o p : K}
      {result : Status} (d : Does rf ms ov wf held faults written seen a f g o p result) where
    pub placed_asked : result ≡ variant.Source → (query : List ℕ) → option_and_then query_on_texts (asked words) ≡ Some query → WritesPlaced (held f) query (written o) (written p)
    placed_asked e query h = d.placed e query (sym (ap (λ x. option_and_then query_on_texts x) is) ∙ h)

    pub keeps_asked : WritesNone words → KeepsFiles wf held faults f g o p result
    keeps_asked none = d.keeps (not_true (writes_file a) (λ e. none (ap (λ x. option_map writes_file x) is ∙ ap Some e)))

    pub leaves_asked : (command : FileCommand) (name : List ℕ) → asked words ≡ Some (files command name) → Leaves wf held faults written f g o p
        (name ++ ending_of command) (done_line command (name ++ ending_of command)) result
    leaves_asked command name h = d.leaves command name (some_is is h)

    pub certifies_asked : (name query : List ℕ) (options : Options) → asked words ≡ Some (prove name query options) → Proves wf held faults written f g o p name result
    certifies_asked name query options h = d.certifies name query options (some_is is h)

    pub fulfils_asked : (x : Asked) → asked words ≡ Some x → Fulfils (held f) (held g) seen (written o) (written p) x result
    fulfils_asked x h = subst (λ y. Fulfils (held f) (held g) seen (written o) (written p) y result) (some_is is h) d.fulfils

-- a run that ends for want of memory, and so with none of the statuses of a command that was carried out; a query is refused so
module _ (told now : Option Held) (seen : List Seen) (before after : Option (List ℕ)) (result : Status) (not_done : result ≢ variant.Done) (not_no : result ≢ variant.No)
    (not_deep : result ≢ variant.Deep) (no_file : has_file result ≡ true → ⊥) (kept : result ≢ variant.WriteFault → result ≡ variant.Memory)
    (refused : (name query : List ℕ) (options : Options) → Solves told name query options seen before after result) where
  pub fulfils_none : (x : Asked) → Fulfils told now seen before after x result
  fulfils_none (lambda name query) = record { yes = λ e. absurd (not_done e); no = λ e. absurd (not_no e) }
  fulfils_none (check name query) = record { accepted = λ e. absurd (not_done e); rejected = λ e. absurd (not_no e); deep = λ e. absurd (not_deep e) }
  fulfils_none (prove name query options) = λ f. absurd (no_file f)
  fulfils_none (files command name) = record { made = λ e. absurd (not_done e); refused = λ d w m. absurd (m (kept w)) }
  fulfils_none (solve name query options) = refused name query options
  fulfils_none (query_image name query options) = tt
  fulfils_none (trial size) = tt
  fulfils_none (session name options) = tt

no_file_of : (said result : Status) → has_file said ≡ false → (result ≢ variant.WriteFault → result ≡ said) → has_file result ≡ true → ⊥
unfolding has_file
no_file_of said result none kept f = elim (is_fault result) [
  | inl e ↦ let h : true ≡ false = sym f ∙ ap has_file e in cc
  | inr n ↦ let h : true ≡ false = sym f ∙ ap has_file (kept n) ∙ none in cc
]

-- want of memory is a refusal of each query
wanting_solves : (told : Option Held) (seen : List Seen) (before after : Option (List ℕ)) (result : Status) → (result ≢ variant.WriteFault → (result ≡ variant.Memory) × Appends before after memory_line) →
    (result ≡ variant.WriteFault → AppendsPrefix before after memory_line) → (name query : List ℕ) (options : Options) → Solves told name query options seen before after result
wanting_solves told seen before after result wrote began name query options = record {
  writes = λ n. record { text = memory_line; is = solved.refused Memory solved.no_memory (wrote n).0 refl; appended = (wrote n).1 };
  begins = λ e. record { status = variant.Memory; text = memory_line; is = solved.refused Memory solved.no_memory refl refl; appended = began e };
}

pub fulfils_memory : (told now : Option Held) (seen : List Seen) (before after : Option (List ℕ)) (result : Status) →
    (result ≢ variant.WriteFault → (result ≡ variant.Memory) × Appends before after memory_line) → (result ≡ variant.WriteFault → AppendsPrefix before after memory_line) →
    (x : Asked) → Fulfils told now seen before after x result
unfolding has_file
fulfils_memory told now seen before after result wrote began x =
    let kept : result ≢ variant.WriteFault → result ≡ variant.Memory = λ n. (wrote n).0 in
    fulfils_none told now seen before after result
    (not_otherwise result variant.Memory variant.Done kept (λ f. cc) (λ f. cc)) (not_otherwise result variant.Memory variant.No kept (λ f. cc) (λ f. cc))
    (not_otherwise result variant.Memory variant.Deep kept (λ f. cc) (λ f. cc)) (no_file_of variant.Memory result refl kept) kept
    (wanting_solves told seen before after result wrote began) x
