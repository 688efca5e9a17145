-- A suspension that is still to be carried out on a term.
use Rattle.std.specs.Prelude.{◌≡◌, ℕ, zero, suc, ◌≤◌, List, [], ◌∷◌, length, All, Option, Some, None}
use Rattle.lp_calculus.specs.Term.{Term, replace}
use Rattle.lp_store.specs.declared.cell.EnvEntry.{EnvEntry}
use Rattle.lp_store.specs.Contents.{Contents, env_list}
use Rattle.lp_store.specs.Reading.{ReadAll, values, entry, carried, FitsEntry}
use Rattle.lp_susp.specs.declared.carrying.Pending.{Pending}

-- the suspension's numbers are in order
pub record IsPending (s : Contents) (x : Pending) : Type 0 where
  pub within : x.env.0 ≤ length s.envs
  pub entries : length (env_list s.envs x.env.0) ≡ x.ol
  pub fits : All (FitsEntry x.nl) (env_list s.envs x.env.0)

-- the suspension of a term that reads as the first reads as the second
pub record Carries (s : Contents) (x : Pending) (m r : Term) : Type 0 where
  pub terms : List Term
  pub read : ReadAll s (values (env_list s.envs x.env.0)) terms
  pub is : r ≡ replace (carried x.nl (env_list s.envs x.env.0) terms) 0 m

abbrev pub entry_of : List EnvEntry → ℕ → Option EnvEntry
entry_of [] j = None
entry_of (e ∷ es) zero = Some e
entry_of (e ∷ es) (suc j) = entry_of es j

-- the two environments have as many entries, in order below so many abstractions, and there they give the same to each index
pub record Raises (s z : Contents) (nl : ℕ) (es fs : List EnvEntry) : Type 0 where
  pub entries : length fs ≡ length es
  pub fits : All (FitsEntry nl) fs
  pub gives : (us : List Term) → ReadAll s (values es) us → (vs : List Term) × ReadAll z (values fs) vs × ((d j : ℕ) → entry nl d fs vs j ≡ entry nl d es us j)
