use Rattle.std.proofs.Common.{◌≡◌, ◌-◌, ℕ, List, length, take, ap, ◌∙◌, arith}
use Rattle.std.proofs.lemmas.List.{take_all}
use Rattle.lp_lexer.specs.Lexis.{moved}
use Rattle.lp_session.proofs.serving.column_at.Goals as goal

whole : (xs : List ℕ) → take (length xs) xs ≡ xs
whole xs = take_all (length xs) xs (omega arith)

all_of : (n : ℕ) → n - 0 ≡ n
all_of n = omega arith

pub returns : goal.returns
returns c =
    ap (λ p. p.column) c.end_place.ensures
    ∙ (ap (λ z. (moved (record { line = 1; column = 1 }) z).column) (whole c.piece.result.now)
    ∙ (ap (λ z. (moved (record { line = 1; column = 1 }) z).column) c.piece.ensures
    ∙ ap (λ n. (moved (record { line = 1; column = 1 }) (take n c.args.line.now)).column) (all_of c.args.at)))
