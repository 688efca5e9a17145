use Rattle.std.proofs.Common.{◌≡◌, ◌∙◌, true, false, sym}
use Rattle.lp_files.proofs.Linking.{same_bytes, same_compared}
use Rattle.lp_files.proofs.open.is_named.Goals as goal

pub returns-clause-named : goal.returns-clause-named
returns-clause-named c = λ e. sym c.as_slice.ensures.value ∙ same_bytes c.as_slice.result.now c.as_bytes.result.now (sym c.eq.ensures ∙ e) ∙ c.as_bytes.ensures.value

pub returns-clause-other : goal.returns-clause-other
returns-clause-other c = λ e same.
    absurd (let z : true ≡ false = sym (same_compared c.as_slice.result.now c.as_bytes.result.now (c.as_slice.ensures.value ∙ same ∙ sym c.as_bytes.ensures.value)) ∙ sym c.eq.ensures ∙ e in cc)
