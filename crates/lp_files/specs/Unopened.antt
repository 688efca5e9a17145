-- Why the object or the image of a module is not opened: the first of its file, its bytes, its name and its code that is at fault.
use Rattle.std.specs.Prelude.{◌≡◌, ◌≢◌, ◌++◌, ℕ, List, Option, Err, codes}
use Rattle.lp_base.specs.Held.{Held}
use Rattle.lp_base.specs.declared.limit.Limit.TheVariants as limit
use Rattle.lp_base.specs.declared.limits.TheConstants.{MAX_IMAGE_BYTES}
use Rattle.lp_code.specs.declared.image.Image.{Image}
use Rattle.lp_code.specs.declared.object.Object.{Object}
use Rattle.lp_code.specs.declared.record.Record.{Record}
use Rattle.lp_code.specs.Naming.{image_tables, object_tables}
use Rattle.lp_code.specs.Symbolic.{Tables}
use Rattle.lp_object.specs.Files.{spelled_object}
use Rattle.lp_object.specs.Plain.{plain_image, plain_object}
use Rattle.lp_object.specs.Reading.{image_of, object_of}
use Rattle.lp_object.specs.Refusing.{Tells}
use Rattle.lp_object.specs.Spellable.{SpellsImage}
use Rattle.lp_object.specs.declared.fault.FormatFault.{FormatFault}
use Rattle.lp_verify.specs.Judged.{IsTold as IsVerdict}
use Rattle.lp_verify.specs.declared.judging.Verified.{Verified}
use Rattle.lp_verify.specs.declared.refusal.VerifyRefusal.{VerifyRefusal}
use Rattle.lp_build.specs.Told.{IsTold}
use Rattle.lp_lines.specs.Looked.{Found}
use Rattle.lp_lines.specs.declared.refusal.Refusal.{Refusal}
use Rattle.lp_lines.specs.declared.refusal.Refusal.TheVariants as refusal
use Rattle.lp_files.specs.Said.{TellsMisnamed, TellsMisread, TellsRejected}

abbrev pub object_file : (name : List ℕ) → List ℕ
object_file name = name ++ codes ".lpo"

abbrev pub image_file : (name : List ℕ) → List ℕ
image_file name = name ++ codes ".lp"

-- the first rule that code breaks, and where
abbrev pub IsBroken : Tables → List Record → VerifyRefusal → Type 0
IsBroken t rs e = IsVerdict {A = Verified} t rs (Err e)

-- the bytes of a file are no object of a module: they spell none, for the first fault from left to right; or one of another name; or one whose code denotes nothing,
-- for the first rule that is broken
pub data IsMisread (file name bytes : List ℕ) (r : Refusal) : Type 0 where
  no_object : (e : FormatFault) → Tells plain_object (Err e) (object_of bytes) → TellsMisread file e r → IsMisread file name bytes r
  other_object : (o : Object) → bytes ≡ spelled_object (plain_object o) → o.name.items ≢ name → TellsMisnamed file r → IsMisread file name bytes r
  broken_object : (o : Object) (e : VerifyRefusal) → bytes ≡ spelled_object (plain_object o) → o.name.items ≡ name →
      IsBroken (object_tables o) o.code.records.items e → TellsRejected file e r → IsMisread file name bytes r

-- the same of an image
pub data IsMisreadImage (file name bytes : List ℕ) (r : Refusal) : Type 0 where
  no_image : (e : FormatFault) → Tells plain_image (Err e) (image_of bytes) → TellsMisread file e r → IsMisreadImage file name bytes r
  other_image : (i : Image) → SpellsImage (plain_image i) bytes → i.name.items ≢ name → TellsMisnamed file r → IsMisreadImage file name bytes r
  broken_image : (i : Image) (e : VerifyRefusal) → SpellsImage (plain_image i) bytes → i.name.items ≡ name →
      IsBroken (image_tables i) i.code.records.items e → TellsRejected file e r → IsMisreadImage file name bytes r

-- its file is not read, or has bytes that are none
pub data IsUnopenedObject (told : Option Held) (name : List ℕ) (r : Refusal) : Type 0 where
  of_file : Found (object_file name) MAX_IMAGE_BYTES limit.Image told (Err r) → IsUnopenedObject told name r
  of_bytes : (bytes : List ℕ) → IsTold told (object_file name) bytes → IsMisread (object_file name) name bytes r → IsUnopenedObject told name r
  no_memory : r ≡ refusal.Memory → IsUnopenedObject told name r

pub data IsUnopenedImage (told : Option Held) (name : List ℕ) (r : Refusal) : Type 0 where
  of_image_file : Found (image_file name) MAX_IMAGE_BYTES limit.Image told (Err r) → IsUnopenedImage told name r
  of_image_bytes : (bytes : List ℕ) → IsTold told (image_file name) bytes → IsMisreadImage (image_file name) name bytes r → IsUnopenedImage told name r
  want_of_memory : r ≡ refusal.Memory → IsUnopenedImage told name r
