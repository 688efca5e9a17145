-- What the functions tell of what is read.
use Rattle.std.proofs.Common.{◌≡◌, ℕ, ◌<◌, None, Result, Ok, Err, sym, ap, subst, ◌∙◌, arith}
use Rattle.std.specs.Prelude.{slice_index_or}
use Rattle.std.proofs.lemmas.List.{get_or_past}
use Rattle.lp_bytes.specs.declared.fault.Fault.{Fault}
use Rattle.lp_bytes.specs.declared.fault.Fault.TheVariants.{BadField}
use Rattle.lp_bytes.specs.declared.fault.ReadError.{ReadError}
use Rattle.lp_bytes.specs.declared.fault.ReadError.TheVariants as errors
use Rattle.lp_bytes.specs.Reading.{Left, Read, ◌>>=◌, Fails, Gives, byte_at}
use Rattle.lp_object.specs.declared.width.Width.{Width}
use Rattle.lp_object.specs.Reading.{layouts, laid_out_at, instr_at}

-- the same of what is read by another name
pub gives_so : {X Y : Type 0} (view : X → Y) (r : Result X ReadError) (new : Left) (p q : Read Y) → p ≡ q → Gives view r new q → Gives view r new p
gives_so view r new p q e h = subst (λ z. Gives view r new z) (sym e) h

-- a refusal at the offset of the field
pub refused_at : {A : Type 0} (e : ReadError) (at : ℕ) (s : Left) (read : Result A Fault) → e ≡ errors.Fault (BadField at) → at ≡ s.at → read ≡ Err (BadField s.at) → Fails e read
refused_at e at s read is here h = subst (λ f. Fails f read) (sym is) (h ∙ ap (λ n. Err (BadField n)) (sym here))

pub instr_is : (w : Width) (s : Left) (n : ℕ) (t : Left) → byte_at s ≡ Ok (n, t) → instr_at w s ≡ laid_out_at w s.at n (slice_index_or layouts n None) t
unfolding instr_at
instr_is w s n t e = ap (λ r. r >>= λ b. laid_out_at w s.at b.0 (slice_index_or layouts b.0 None) b.1) e

-- no instruction has a number above 36
pub no_instr : (w : Width) (s : Left) (n : ℕ) (t : Left) → byte_at s ≡ Ok (n, t) → 36 < n → instr_at w s ≡ Err (BadField s.at)
no_instr w s n t e lt = instr_is w s n t e ∙ ap (λ o. laid_out_at w s.at n o t) (get_or_past layouts n None (omega (arith, lt)))
