-- How much of what an emitter has left a function uses, and where it refuses, that so much is not left.
use Rattle.std.specs.Prelude.{◌≡◌, ◌+◌, ◌<◌, ◌≤◌}
use Rattle.lp_gen.specs.declared.emitter.Emitter.{Emitter}
use Rattle.lp_gen.specs.declared.fault.RecordRefusal.{RecordRefusal}
use Rattle.lp_gen.specs.declared.fault.RecordRefusal.TheVariants as refusal
use Rattle.lp_gen.specs.Registers.{Amount, both, unset_take}
use Rattle.lp_gen.specs.Steps.{Around}

pub record Uses (old new : Emitter) (a : Amount) : Type 0 where
  pub types_are : new.types ≡ old.types + a.types
  pub terms_are : new.registers ≡ old.registers + a.terms
  pub bytes_are : new.place ≡ old.place + a.bytes
  pub fits : a.misfits ≡ 0

pub data HasNoRoom (e : Emitter) (a : Amount) : Type 0 where
  for_types : 65535 < e.types + a.types → HasNoRoom e a
  for_terms : 65535 < e.registers + a.terms → HasNoRoom e a
  for_bytes : 4294967295 < e.place + a.bytes → HasNoRoom e a
  for_misfits : 0 < a.misfits → HasNoRoom e a

pub data Lacks (e : Emitter) (a : Amount) (r : RecordRefusal) : Type 0 where
  room : r ≡ refusal.Registers → HasNoRoom e a → Lacks e a r
  memory : r ≡ refusal.Memory → Lacks e a r

pub record AtMost (a b : Amount) : Type 0 where
  pub types : a.types ≤ b.types
  pub terms : a.terms ≤ b.terms
  pub bytes : a.bytes ≤ b.bytes
  pub misfits : a.misfits ≤ b.misfits

-- what was used is what the variables would take that were not set, and are now
pub record UsesUnset (old new : Emitter) (a a' : Around) : Type 0 where
  pub amount : Amount
  pub used : Uses old new amount
  pub left : both amount (unset_take a'.own) ≡ unset_take a.own
