-- What the watchers have heard, as it is handed on.
use Rattle.std.proofs.Common.{◌≡◌, ◌≢◌, ℕ, List, Option, Some, sym, ◌∙◌, subst, true, false, refl, inl, inr}
use Rattle.lp_base.specs.Held.{Held}
use Rattle.lp_base.specs.declared.status.Status.{Status}
use Rattle.lp_base.specs.declared.status.Status.TheVariants as variant
use Rattle.lp_watch.specs.Seen.{Seen}
use Rattle.lp_cli.specs.Fulfils.{answer_limit, step_limit}
use Rattle.lp_cli.specs.Hears.{Hears}
use Rattle.lp_lines.proofs.Statuses.{is_fault}
use Rattle.lp_lines.specs.Lines.{is_of_search}
use Rattle.lp_solve.specs.Watched.{Watches, ended_itself}
use Rattle.lp_words.specs.Asked.{Asked, asked, check, files, lambda, prove, query_image, session, solve, trial}
use Rattle.lp_words.specs.declared.asked.Options.{Options}

module _ (told : Option Held) (result : Status) (old new : List Seen) where
  -- what is asked for is one of these
  pub hears_as : (x asked : Asked) → asked ≡ x → Hears told x result old new → Hears told asked result old new
  hears_as x asked is h = subst (λ y. Hears told y result old new) (sym is) h

  -- a query, under its name, text and limits as they are handed on
  pub solve_heard : (options : Options) {name' name query' query : List ℕ} {steps answers : ℕ} → name' ≡ name → query' ≡ query → steps ≡ step_limit options → answers ≡ answer_limit options →
      (options.watch ≡ true → Watches told name' query' steps answers result old new) → Hears told (solve name query options) result old new
  solve_heard options {name' = name'} {name = name} {query' = query'} {query = query} {steps = steps} {answers = answers} n q s a h = λ w.
      subst (λ x. Watches told x query (step_limit options) (answer_limit options) result old new) n
      (subst (λ y. Watches told name' y (step_limit options) (answer_limit options) result old new) q
      (subst (λ z. Watches told name' query' z (answer_limit options) result old new) s (subst (λ z. Watches told name' query' steps z result old new) a (h w))))

  -- want of memory, before anything was done
  unread : new ≡ old → (name query : List ℕ) (options : Options) → (result ≢ variant.WriteFault → result ≡ variant.Memory) → Hears told (solve name query options) result old new
  unfolding is_of_search ended_itself
  unread same name query options said = λ w. record {
    searched = λ e. elim (is_fault result) [
      | inl f ↦ absurd (let q = subst (λ r. ended_itself r ≡ true) f e in cc)
      | inr n ↦ absurd (let q = subst (λ r. ended_itself r ≡ true) (said n) e in cc)
    ];
    always = inl same;
    refused = λ e n. absurd (let q = subst (λ r. is_of_search r ≡ false) (said n) e in cc);
  }

  pub wanting_heard : new ≡ old → (result ≢ variant.WriteFault → result ≡ variant.Memory) → (x : Asked) → Hears told x result old new
  wanting_heard same said (solve name query options) = unread same name query options said
  wanting_heard same said (query_image name query options) = tt
  wanting_heard same said (trial size) = tt
  wanting_heard same said (session name options) = tt
  wanting_heard same said (lambda name query) = tt
  wanting_heard same said (check name query) = tt
  wanting_heard same said (prove name query options) = tt
  wanting_heard same said (files command name) = tt

-- what the words ask for
pub heard_asked : (told : Option Held) (result : Status) (old new : List Seen) (words : List (List ℕ)) (a : Asked) → asked words ≡ Some a → Hears told a result old new →
    (x : Asked) → asked words ≡ Some x → Hears told x result old new
heard_asked told result old new words a is h x e = hears_as told result old new a x (let s : ◌≡◌ {A = Option Asked} (Some x) (Some a) = sym e ∙ is in cc) h
