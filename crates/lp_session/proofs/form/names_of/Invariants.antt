use Rattle.std.proofs.Common.{◌≡◌, map, take}
use Rattle.lp_session.specs.Form.{piece}
use Rattle.lp_session.proofs.form.names_of.Given as goal

abbrev pub invariant-names : goal.invariant-names
invariant-names l = map (λ n. n.items) l.names.items ≡ map (λ t. piece l.line t.from t.to) (take l.at l.tokens)
