use Rattle.std.proofs.lemmas.List.{nil_from_length}
use Rattle.lp_plain.proofs.Collects.{no_clauses_split, clauses_split}
use Rattle.lp_plain.proofs.free.push_clauses.Goals as goal

pub returns-in_default : goal.returns-in_default
returns-in_default c = λ b. no_clauses_split b c.args.depth c.args.left.now.items c.args.clauses.now (nil_from_length c.args.clauses.now c.in_default.ensures.cases)

pub returns : goal.returns
returns c = λ b.
    clauses_split b c.args.depth c.args.left.now.items c.push_clause.new.left.items c.push.new.self.items c.args.clauses.now c.in-Some.first.now c.in-Some.rest c.in-Some.ensures.cases.0 (c.in_ok-push_clause.ensures b) c.in_ok-push.ensures.items
