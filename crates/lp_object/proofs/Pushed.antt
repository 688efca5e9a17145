-- One more entry of a list.
use Rattle.std.proofs.Common.{◌≡◌, ◌∙◌, ℕ, suc, ◌+◌, List, [], ◌∷◌, ◌++◌, length, ap, sym, subst, arith}
use Rattle.std.proofs.lemmas.List.Elements.{All-push}
use Rattle.std.specs.List.{All}
use Rattle.lp_lemmas.proofs.Lists.{length_push_suc}
use Rattle.lp_code.specs.declared.instruction.Instr.{Instr}
use Rattle.lp_code.specs.declared.record.Record.{Record}
use Rattle.lp_code.specs.Length.{Fits, AllFit}

pub instruction_fits : (xs ys : List Instr) (i : Instr) → ys ≡ xs ++ i ∷ [] → All Fits xs → Fits i → All Fits ys
instruction_fits xs ys i e h k = subst (All Fits) (sym e) (All-push Fits xs i h k)

pub record_fits : (xs ys : List Record) (r : Record) → ys ≡ xs ++ r ∷ [] → AllFit xs → All Fits r.code.items → AllFit ys
record_fits xs ys r e h k = subst AllFit (sym e) (All-push (λ (r : Record). All Fits r.code.items) xs r h k)

pub one_longer : {A : Type 0} (xs ys : List A) (x : A) (n : ℕ) → ys ≡ xs ++ x ∷ [] → length xs ≡ n → length ys ≡ n + 1
one_longer xs ys x n e h = let l : length ys ≡ suc (length xs) = ap length e ∙ length_push_suc xs x in omega (arith, l, h)
