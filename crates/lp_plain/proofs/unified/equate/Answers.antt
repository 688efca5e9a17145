use Rattle.std.proofs.Common.{[], ◌∷◌, refl, ap, Some}
use Rattle.lp_plain.proofs.unified.equate.Goals as goal

pub returns-clause-equated : goal.returns-clause-equated
returns-clause-equated c = λ z r lv ds s t el er kl kr d kd i o e.
    c.in_ok-unified.ensures.unified z r lv (record { left = s; right = t; level = c.args.level } ∷ []) ds
    (record { stands = refl; left = (0, ap Some el); right = (0, ap Some er) }, tt) d ((kl, kr), tt) kd i o e
