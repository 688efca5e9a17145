use Rattle.std.proofs.Common.{◌≡◌, ◌∙◌, ap, arith, w64, to_z, of_z, int_cmp}
use Rattle.std.specs.BTreeMap.{is_at}
use Rattle.std.proofs.lemmas.Int.{to_z-of_z}
use Rattle.lp_code.specs.inner.Told.{numbers_of, told_at}
use Rattle.lp_code.proofs.groups.Groups.group.Goals as goal

pub returns-in-Int : goal.returns-in-Int
returns-in-Int c =
    let same : to_z w64 (of_z w64 c.in-Int.integer) ≡ c.in-Int.integer = grind (arith, to_z-of_z) in
    rw c.in-Int.is (c.group_of-in-Int.ensures ∙ ap numbers_of c.get-in-Int.ensures.value ∙ ap (λ z. told_at (is_at (int_cmp z)) c.args.self.now.integers.entries) same)
