use Rattle.std.proofs.Common.{[], sym, append-nil, refl}
use Rattle.lp_term.proofs.Trees.{extends_same}
use Rattle.lp_plain.proofs.Scoped.{scope_whole, whole_scope}
use Rattle.lp_plain.proofs.Opening.{values_more, value_stands}
use Rattle.lp_plain.proofs.parts.bound.Goals as goal

pub returns-clause-bound : goal.returns-clause-bound
returns-clause-bound c =
    let m = c.args.machine.now in
    let s = c.in_ok-scope.ensures in
    record {
      bank = refl;
      grows = record { bank = extends_same m.bank; table = refl; frames = ([], sym (append-nil m.frames.items)); blocks = s.blocks; values = (_, s.values) };
      frames = refl;
      keeps = record { assumptions = refl; newest = refl };
      standings = refl;
      index = refl;
      denied = refl;
      choices = refl;
      branch = refl;
      opened = λ σ h. (_, scope_whole c.open.new.self c.in_ok-scope.scope _ (s.opened h.0 (whole_scope m.scopes c.args.place.values.scope h.0 h.1)), values_more m.bank h.0 c.args.value σ h.2);
      holds = λ vs h. scope_whole c.open.new.self c.in_ok-scope.scope _ (s.opened vs (whole_scope m.scopes c.args.place.values.scope vs h));
      stands = value_stands m _ c.args.value refl refl refl s.values;
      types = refl;
      assumed = refl;
      standing = refl;
      level = refl;
      mark = refl;
    }
