-- What a try leaves stands for it.
use Rattle.lp_proof_laws.proofs.Uniform.Settings.{IsSetting}
use Rattle.std.proofs.Common.{◌≡◌, ℕ, List, [], ◌∷◌, refl}
use Rattle.lp_calculus.specs.Types.{Ty}
use Rattle.lp_calculus.specs.Term.{Term}
use Rattle.lp_model.specs.Unify.{unit_limit}
use Rattle.lp_lemmas.specs.Each.{EachOf}
use Rattle.lp_model.specs.Flat.{Clause, clause}
use Rattle.lp_model.specs.Branch.{Entry, Branch}
use Rattle.lp_model.specs.Answers.{Query}
use Rattle.lp_model.specs.Proofs.{Declared, Leaves}
use Rattle.lp_model.specs.Search.{try_clause}
use Rattle.lp_search_laws.specs.Branches.{BranchTyping, IsTypedTry, IsProgramTyped, AreTypedEntries, trying, with_atom}
use Rattle.lp_search_laws.specs.Views.{StandFor}
use Rattle.lp_search_laws.proofs.TrySolves.{try_keeps, try_gives}
use Rattle.lp_search_laws.proofs.TryStands.{stands}

pub tries_stand : {L : Leaves} (n : ℕ) (d : Declared) → IsSetting L d → (P : List Clause) → EachOf (IsProgramTyped d) P → (q : Query)
    (y : BranchTyping) (c : Clause) (t : Term) (e : Entry) (b : Branch) (mark : ℕ) → IsTypedTry n d P q y c t e b → StandFor L n d P q
    (trying y c t e b mark) (try_clause unit_limit n c t e b mark)
tries_stand {L} n d std P program q y (clause k vs h g) t e b mark w = go y.eigens refl w.branch.entries
  where
    go : (Es : List (List Ty)) → y.eigens ≡ Es → AreTypedEntries d y.answer.variables Es (with_atom e t ∷ b.goals) → StandFor L n d P q (trying y (clause k vs h g) t e b mark) (try_clause unit_limit n (clause k vs h g) t e b mark)
    go [] i x = absurd x
    go (E ∷ Es) i x = stands n d std P program q y k vs h g t e b mark w E Es i (try_keeps n d std P program q y k vs h g t e b mark w E Es i) (try_gives n d std P program q y k vs h g t e b mark w E Es i)
