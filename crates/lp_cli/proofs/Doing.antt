-- How each thing that is asked for is carried out, by what its command shows.
use Rattle.std.proofs.Common.{◌≡◌, ◌≢◌, ℕ, List, ◌++◌, Option, Some, refl, sym, ap, ◌∙◌, subst, inl, inr, Bool, true, false}
use Rattle.std.specs.Prelude.{◌⊎◌}
use Rattle.lp_base.specs.Held.{Held}
use Rattle.lp_base.specs.declared.status.Status.{Status}
use Rattle.lp_base.specs.declared.status.Status.TheVariants as variant
use Rattle.lp_cli.specs.Does.{Does}
use Rattle.lp_cli.specs.Fulfils.{Solves, answer_limit, step_limit}
use Rattle.lp_files.specs.Refused.{Makes}
use Rattle.lp_judge.specs.Checked.{Checks}
use Rattle.lp_judge.specs.Judged.{Judges}
use Rattle.lp_judge.specs.Proofs.{WritesProofs, has_file}
use Rattle.lp_files.specs.Target.{done_line, ending_of}
use Rattle.lp_files.proofs.Leaving.{leaves_for}
use Rattle.lp_lines.specs.Ends.{KeepsFiles, Ran}
use Rattle.lp_judge.specs.Proved.{Proves}
use Rattle.lp_lines.specs.Left.{Leaves}
use Rattle.lp_load.specs.Placed.{WritesPlaced}
use Rattle.lp_watch.specs.Seen.{Seen}
use Rattle.lp_solve.specs.Reported.{watching}
use Rattle.lp_solve.specs.Solved.{BeginsSolved, WritesSolved}
use Rattle.lp_words.specs.Asked.{Asked, check, files, lambda, prove, query_image, session, solve, trial, watches}
use Rattle.lp_words.specs.declared.asked.FileCommand.{FileCommand}
use Rattle.lp_words.specs.declared.asked.Options.{Options}

-- where texts are refused, the query is that which is asked for
placed_one : (told : Option Held) (old new : Option (List ℕ)) (query : List ℕ) (result : Status) → (result ≡ variant.Source → WritesPlaced told query old new)
    → result ≡ variant.Source → (other : List ℕ) → ◌≡◌ {A = Option (List ℕ)} (Some query) (Some other) → WritesPlaced told other old new
placed_one told old new query result placed e other is = let q : query ≡ other = cc in subst (λ x. WritesPlaced told x old new) q (placed e)

-- a query, under its name, text and limits as they are handed on
pub solves : (told : Option Held) (old new : Option (List ℕ)) (result : Status) (options : Options) (watchers : List Seen) {name' name query' query : List ℕ} {steps answers : ℕ} → name' ≡ name → query' ≡ query →
    steps ≡ step_limit options → answers ≡ answer_limit options →
    (result ≢ variant.WriteFault → WritesSolved told name' query' (watching options.watch watchers) steps answers result old new) →
    (result ≡ variant.WriteFault → BeginsSolved told name' query' (watching options.watch watchers) steps answers old new) → Solves told name query options watchers old new result
solves told old new result options watchers {name' = name'} {name = name} {query' = query'} {query = query} {steps = steps} {answers = answers} n q s a writes begins = record {
  writes = λ k. subst (λ x. WritesSolved told x query (watching options.watch watchers) (step_limit options) (answer_limit options) result old new) n
      (subst (λ y. WritesSolved told name' y (watching options.watch watchers) (step_limit options) (answer_limit options) result old new) q
      (subst (λ z. WritesSolved told name' query' (watching options.watch watchers) z (answer_limit options) result old new) s (subst (λ z. WritesSolved told name' query' (watching options.watch watchers) steps z result old new) a (writes k))));
  begins = λ k. subst (λ x. BeginsSolved told x query (watching options.watch watchers) (step_limit options) (answer_limit options) old new) n
      (subst (λ y. BeginsSolved told name' y (watching options.watch watchers) (step_limit options) (answer_limit options) old new) q
      (subst (λ z. BeginsSolved told name' query' (watching options.watch watchers) z (answer_limit options) old new) s (subst (λ z. BeginsSolved told name' query' (watching options.watch watchers) steps z old new) a (begins k))));
}

module _ {F K : Type 0} {rf ms ov wf : F → ℕ} {held : F → Option Held} {faults : K → ℕ} {written : K → Option (List ℕ)} {seen : List Seen} {a b : F} {o p : K} where
  -- what is asked for is one of these
  pub becomes : (x asked : Asked) (result : Status) → asked ≡ x → Does rf ms ov wf held faults written seen x a b o p result → Does rf ms ov wf held faults written seen asked a b o p result
  becomes x asked result is d = subst (λ y. Does rf ms ov wf held faults written seen y a b o p result) (sym is) d

  -- a generated query, queries on an image
  pub does_trial : (size : ℕ) (result : Status) → Ran rf ms ov written a b o p result → KeepsFiles wf held faults a b o p result → Does rf ms ov wf held faults written seen (trial size) a b o p result
  does_trial size result r k = record {
    placed = λ e query is. absurd (cc);
    ran = r;
    keeps = λ no. k;
    leaves = λ command name is. absurd (cc);
    fulfils = tt;
    certifies = λ name query options is. absurd (cc);
  }

  pub does_query : (name query : List ℕ) (options : Options) (result : Status) → Ran rf ms ov written a b o p result → KeepsFiles wf held faults a b o
      p result → Does rf ms ov wf held faults written seen (query_image name query options) a b o p result
  does_query name query options result r k = record {
    placed = λ e query' is. absurd (cc);
    ran = r;
    keeps = λ no. k;
    leaves = λ command name' is. absurd (cc);
    fulfils = tt;
    certifies = λ name' query' options' is. absurd (cc);
  }

  pub does_session : (name : List ℕ) (options : Options) (result : Status) → Ran rf ms ov written a b o p result → KeepsFiles wf held faults a b o p
      result → Does rf ms ov wf held faults written seen (session name options) a b o p result
  does_session name options result r k = record {
    placed = λ e query is. absurd (cc);
    ran = r;
    keeps = λ no. k;
    leaves = λ command name' is. absurd (cc);
    fulfils = tt;
    certifies = λ name' query' options' is. absurd (cc);
  }

  -- judgements
  pub does_lambda : (name query : List ℕ) (result : Status) → Ran rf ms ov written a b o p result → KeepsFiles wf held faults a b o p result
      → (result ≡ variant.Source → WritesPlaced (held a) query (written o) (written p)) → Judges (held a) name query (written o) (written p) result
      → Does rf ms ov wf held faults written seen (lambda name query) a b o p result
  does_lambda name query result r k placed u = record {
    placed = placed_one (held a) (written o) (written p) query result placed;
    ran = r;
    keeps = λ no. k;
    leaves = λ command name' is. absurd (cc);
    fulfils = u;
    certifies = λ name' query' options' is. absurd (cc);
  }

  pub does_check : (name query : List ℕ) (result : Status) → Ran rf ms ov written a b o p result → KeepsFiles wf held faults a b o p result
      → (result ≡ variant.Source → WritesPlaced (held a) query (written o) (written p)) → Checks (held a) name query (written o) (written p) result
      → Does rf ms ov wf held faults written seen (check name query) a b o p result
  does_check name query result r k placed u = record {
    placed = placed_one (held a) (written o) (written p) query result placed;
    ran = r;
    keeps = λ no. k;
    leaves = λ command name' is. absurd (cc);
    fulfils = u;
    certifies = λ name' query' options' is. absurd (cc);
  }

  -- certificates
  pub does_prove : (name query : List ℕ) (options : Options) (result : Status) → Ran rf ms ov written a b o p result
      → Proves wf held faults written a b o p name result
      → (result ≡ variant.Source → WritesPlaced (held a) query (written o) (written p)) → (has_file result ≡ true → WritesProofs (held a) (held b) name query)
      → Does rf ms ov wf held faults written seen (prove name query options) a b o p result
  does_prove name query options result r l placed u = record {
    placed = placed_one (held a) (written o) (written p) query result placed;
    ran = r;
    keeps = λ no. absurd (cc);
    leaves = λ command name' is. absurd (cc);
    fulfils = u;
    certifies = λ name' query' options' is. let n : name ≡ name' = cc in subst (λ x. Proves wf held faults written a b o p x result) n l;
  }

  -- a file of a module
  pub does_files : (command : FileCommand) (name : List ℕ) (result : Status) → Ran rf ms ov written a b o p result
      → Leaves wf held faults written a b o p (name ++ ending_of command) (done_line command (name ++ ending_of command)) result → Makes (held a) (held b) command name (written o) (written p) result
      → Does rf ms ov wf held faults written seen (files command name) a b o p result
  does_files command name result r l u = record {
    placed = λ e query is. absurd (cc);
    ran = r;
    keeps = λ no. absurd (cc);
    leaves = λ command' name' is. let c : command ≡ command' = cc in let n : name ≡ name' = cc in leaves_for c n l;
    fulfils = u;
    certifies = λ name' query' options' is. absurd (cc);
  }

  -- a query on texts
  pub does_solve : (name query : List ℕ) (options : Options) (result : Status) → Ran rf ms ov written a b o p result → KeepsFiles wf held faults a b o p result
      → (result ≡ variant.Source → WritesPlaced (held a) query (written o) (written p)) → Solves (held a) name query options seen (written o) (written p) result
      → Does rf ms ov wf held faults written seen (solve name query options) a b o p result
  does_solve name query options result r k placed u = record {
    placed = placed_one (held a) (written o) (written p) query result placed;
    ran = r;
    keeps = λ no. k;
    leaves = λ command name' is. absurd (cc);
    fulfils = u;
    certifies = λ name' query' options' is. absurd (cc);
  }

-- without `--watch` what is lent stays
pub watching_or : {X : Type 0} (x asked : Asked) (old new : X) → asked ≡ x → (watches x ≡ false → new ≡ old) → (watches asked ≡ true) ⊎ (new ≡ old)
watching_or x asked old new is kept = go (watches x) refl
  where
    go : (w : Bool) → watches x ≡ w → (watches asked ≡ true) ⊎ (new ≡ old)
    go true e = inl (ap watches is ∙ e)
    go false e = inr (kept e)
