use Rattle.std.proofs.Common.{◌≤◌, subst as transport}
use Rattle.lp_term.proofs.Within.{stands_for}
use Rattle.lp_pattern.proofs.inside.term_below.Goals as goal

pub returns : goal.returns
returns c = λ b e x n l t. (l, stands_for b e c.args.id c.args.other x (transport (λ n. n ≤ c.args.id.0) n c.if-id-count.false) t)
