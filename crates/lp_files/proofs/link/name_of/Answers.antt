use Rattle.std.proofs.Common.{subst, sym}
use Rattle.lp_files.specs.Said.{IsNameOf}
use Rattle.lp_files.proofs.Ordering.{member_there}
use Rattle.lp_files.proofs.link.name_of.Goals as goal

pub returns-in_ok-get-in-Kind : goal.returns-in_ok-get-in-Kind
returns-in_ok-get-in-Kind c =
    let k = c.in_ok-get-in-Kind.field-0.now in
    let i = c.in_ok-place-in-Kind.place in
    subst (λ p. IsNameOf c.args.object.now p c.as_slice.result.now) (sym c.in-Kind.is) (
      i,
      c.in_ok-place-in-Kind.ensures,
      (k, member_there c.args.object.now.kinds.items c.deref.result.now i k c.deref.ensures.value c.in_ok-get-in-Kind.ensures.lookup.3.0 c.in_ok-get-in-Kind.ensures.lookup.1, sym c.as_slice.ensures.value),
    )

pub returns-in_ok-get-in-Constant : goal.returns-in_ok-get-in-Constant
returns-in_ok-get-in-Constant c =
    let k = c.in_ok-get-in-Constant.field-0.now in
    let i = c.in_ok-place-in-Constant.place in
    subst (λ p. IsNameOf c.args.object.now p c.as_slice-in-Constant.result.now) (sym c.in-Constant.is) (
      i,
      c.in_ok-place-in-Constant.ensures,
      (k, member_there c.args.object.now.constants.items c.deref-in-Constant.result.now i k c.deref-in-Constant.ensures.value c.in_ok-get-in-Constant.ensures.lookup.3.0 c.in_ok-get-in-Constant.ensures.lookup.1, sym c.as_slice-in-Constant.ensures.value),
    )
