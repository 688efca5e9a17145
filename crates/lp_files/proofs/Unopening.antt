-- Why an object or an image is not opened.
use Rattle.std.specs.Global.{Global}
use Rattle.std.proofs.Common.{◌≡◌, ℕ, List, Option, subst}
use Rattle.std.specs.Prelude.{Vec, Result, Ok, Err, IfErr}
use Rattle.lp_base.specs.Held.{Held}
use Rattle.lp_base.specs.declared.limit.Limit.{Limit}
use Rattle.lp_code.specs.declared.object.Object.{Object}
use Rattle.lp_code.specs.declared.record.Record.{Record}
use Rattle.lp_code.specs.Symbolic.{Tables}
use Rattle.lp_verify.specs.Judged.{IsTold as IsVerdict}
use Rattle.lp_verify.specs.declared.judging.Verified.{Verified}
use Rattle.lp_verify.specs.declared.refusal.VerifyRefusal.{VerifyRefusal}
use Rattle.lp_verify.specs.declared.refusal.VerifyRefusal.TheVariants as verify
use Rattle.lp_build.specs.Told.{IsTold}
use Rattle.lp_lines.specs.Looked.{Found}
use Rattle.lp_lines.specs.declared.refusal.Refusal.{Refusal}
use Rattle.lp_files.specs.Unopened.{IsBroken, IsMisread, IsMisreadImage, IsUnopenedImage, IsUnopenedObject, image_file, object_file, of_bytes, of_image_bytes}

-- a file that was not read
pub found_unread : (file : List ℕ) (most : ℕ) (l : Limit) (told : Option Held) (r : Result (Vec ℕ Global) Refusal) → Found file most l told r → IfErr r (λ e. Found file most l told (Err e))
found_unread file most l told (Ok bytes) h = tt
found_unread file most l told (Err e) h = h

-- a verdict that refuses is one whatever it would have given
pub broken_is : (A : Type 0) (t : Tables) (rs : List Record) (e : VerifyRefusal) → IsVerdict {A = A} t rs (Err e) → IsBroken t rs e
broken_is A t rs (verify.Invalid c at r) h = h
broken_is A t rs verify.Memory h = tt

-- bytes that are none
pub object_misread : (told : Option Held) (name file slice bytes : List ℕ) (r : Result Object Refusal) → file ≡ object_file name → slice ≡ bytes → IsTold told file bytes → IfErr r (IsMisread file name slice) → IfErr r (IsUnopenedObject told name)
object_misread told name file slice bytes (Ok o) f s there h = tt
object_misread told name file slice bytes (Err e) f s there h =
    of_bytes bytes (subst (λ w. IsTold told w bytes) f there) (subst (λ b. IsMisread (object_file name) name b e) s (subst (λ w. IsMisread w name slice e) f h))

pub image_misread : (told : Option Held) (name file slice bytes : List ℕ) (r : Result Verified Refusal) → file ≡ image_file name → slice ≡ bytes → IsTold told file bytes → IfErr r (IsMisreadImage file name slice) → IfErr r (IsUnopenedImage told name)
image_misread told name file slice bytes (Ok v) f s there h = tt
image_misread told name file slice bytes (Err e) f s there h =
    of_image_bytes bytes (subst (λ w. IsTold told w bytes) f there) (subst (λ b. IsMisreadImage (image_file name) name b e) s (subst (λ w. IsMisreadImage w name slice e) f h))
