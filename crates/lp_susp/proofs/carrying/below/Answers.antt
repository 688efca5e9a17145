use Rattle.std.proofs.Common.{◌+◌, add-one}
use Rattle.lp_store.specs.Contents.{env_list}
use Rattle.lp_susp.proofs.Raising.{fits_more, below_carries, below_avoids}
use Rattle.lp_susp.proofs.carrying.below.Goals as goal

pub raise_first-requires-clause-fits : goal.raise_first-requires-clause-fits
raise_first-requires-clause-fits c = fits_more c.args.pending.nl (c.args.pending.nl + 1) (add-one c.args.pending.nl) _ c.requires.pending.fits

pub returns-clause-carries : goal.returns-clause-carries
returns-clause-carries c = λ m r k.
    let s = c.args.store.now in
    let a = c.raise_first.new.store in
    let x = c.args.pending in
    below_carries s a c.env.new.self x (record { ol = x.ol + 1; nl = x.nl + 1; env = c.in_ok-env.env }) (env_list a.envs c.in_ok-raised.raised.0) m r c.requires.pending.fits (x.nl + 1) (add-one x.nl) c.in_ok-raised.ensures.raises c.in_ok-env.ensures.kept (add-one x.nl)
    c.in_ok-env.ensures.list k

pub returns-clause-avoids : goal.returns-clause-avoids
returns-clause-avoids c = λ y h w.
    let a = c.raise_first.new.store in
    let z = c.env.new.self in
    below_avoids a z y (env_list a.envs c.in_ok-raised.raised.0) (env_list z.envs c.in_ok-env.env.0) c.args.pending.nl c.in_ok-env.ensures.kept (c.mark-mark.ensures.sound.envs c.in_ok-raised.raised.0 c.in_ok-raised.ensures.within) c.in_ok-env.ensures.list
    (c.in_ok-raised.ensures.avoids y h w)
