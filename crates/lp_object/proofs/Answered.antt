-- What the public calls tell of what is read.
use Rattle.std.proofs.Common.{◌≡◌, ℕ, ◌≤◌, List, length, Result, Ok, Err, sym, subst}
use Rattle.std.specs.Prelude.{IfOk}
use Rattle.lp_bytes.specs.declared.fault.Fault.{Fault}
use Rattle.lp_bytes.specs.declared.fault.Fault.TheVariants as bytes
use Rattle.lp_bytes.specs.declared.fault.ReadError.{ReadError}
use Rattle.lp_bytes.specs.declared.fault.ReadError.TheVariants as errors
use Rattle.lp_bytes.specs.Reading.{Fails}
use Rattle.lp_bytes.proofs.Taking.{IsBytes}
use Rattle.lp_code.specs.declared.object.Object.{Object}
use Rattle.lp_code.specs.declared.image.Image.{Image}
use Rattle.lp_object.specs.declared.fault.FormatFault.{FormatFault}
use Rattle.lp_object.specs.Files.{spelled_object}
use Rattle.lp_object.specs.Plain.{PlainObject, PlainImage, plain_object, plain_image}
use Rattle.lp_object.specs.Reading.{object_of, image_of}
use Rattle.lp_object.specs.Refusing.{refusal, Tells}
use Rattle.lp_object.specs.Spellable.{IsObject, SpellsImage}
use Rattle.lp_object.proofs.ObjectsFound.{object_found}
use Rattle.lp_object.proofs.ObjectsAgain.{object_only}
use Rattle.lp_object.proofs.ImagesFound.{image_found}
use Rattle.lp_object.proofs.ImagesAgain.{image_only}

-- a refusal tells the fault that is met
pub fault_told : {X Y : Type 0} (view : X → Y) (e : ReadError) (f : FormatFault) (read : Result Y Fault) → f ≡ refusal e → Fails e read → Tells view (Err f) read
fault_told view e f read same h = subst (λ f. Tells view (Err f) read) (sym same) (told_so view e read h)
  where
    told_so : {X Y : Type 0} (view : X → Y) (e : ReadError) (read : Result Y Fault) → Fails e read → Tells view (Err (refusal e)) read
    told_so view errors.Memory read h = tt
    told_so view (errors.Fault bytes.BadMagic) read h = h
    told_so view (errors.Fault (bytes.BadVersion v)) read h = h
    told_so view (errors.Fault (bytes.Truncated at)) read h = h
    told_so view (errors.Fault (bytes.BadField at)) read h = h
    told_so view (errors.Fault (bytes.Trailing at)) read h = h
    told_so view (errors.Fault (bytes.Limit l)) read h = h

pub object_found_so : (r : Result Object FormatFault) (bs : List ℕ) → IsBytes bs → Tells plain_object r (object_of bs) → IfOk r (λ o. (length bs ≤ 16777216) × IsObject (plain_object o) × (bs ≡ spelled_object (plain_object o)))
object_found_so (Ok o) bs h told = object_found bs (plain_object o) h told
object_found_so (Err f) bs h told = tt

pub object_only_so : (r : Result Object FormatFault) (bs : List ℕ) → Tells plain_object r (object_of bs) → (o : PlainObject) → length bs ≤ 16777216 → IsObject o → bs ≡ spelled_object o → Tells plain_object r (Ok o)
object_only_so r bs told o le h e = subst (λ read. Tells plain_object r read) (object_only bs o le h e) told

pub image_found_so : (r : Result Image FormatFault) (bs : List ℕ) → IsBytes bs → Tells plain_image r (image_of bs) → IfOk r (λ i. (length bs ≤ 16777216) × SpellsImage (plain_image i) bs)
image_found_so (Ok i) bs h told = image_found bs (plain_image i) h told
image_found_so (Err f) bs h told = tt

pub image_only_so : (r : Result Image FormatFault) (bs : List ℕ) → Tells plain_image r (image_of bs) → (i : PlainImage) → length bs ≤ 16777216 → SpellsImage i bs → Tells plain_image r (Ok i)
image_only_so r bs told i le h = subst (λ read. Tells plain_image r read) (image_only bs i le h) told
