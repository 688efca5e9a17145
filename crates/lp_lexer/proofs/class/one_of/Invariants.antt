use Rattle.std.proofs.Common.{◌≡◌, drop}
use Rattle.lp_lexer.specs.Bytes.{is_one_of}
use Rattle.lp_lexer.proofs.class.one_of.Given as goal

abbrev pub invariant-loop-x : goal.invariant-loop-x
invariant-loop-x l = is_one_of (drop l.x-index l.set) l.b ≡ is_one_of l.set l.b
