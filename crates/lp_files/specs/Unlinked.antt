-- Why a module has no image file: an object is not opened, or the objects are not linked, or their image is too long.
use Rattle.std.specs.Prelude.{◌≡◌, ◌<◌, ◌≤◌, ℕ, List, Option, Some, Contains, length, slice_get}
use Rattle.std.specs.Str.{IsUtf8}
use Rattle.lp_base.specs.Held.{Held}
use Rattle.lp_base.specs.declared.limit.Limit.TheVariants as limit
use Rattle.lp_base.specs.declared.limits.TheConstants.{MAX_IMAGE_BYTES, MAX_MODULES}
use Rattle.lp_code.specs.declared.image.Image.{Image}
use Rattle.lp_code.specs.declared.object.Object.{Object}
use Rattle.lp_object.specs.Files.{spelled_image}
use Rattle.lp_object.specs.Plain.{PlainImage, plain_image}
use Rattle.lp_link.specs.Linked.{IsLinked}
use Rattle.lp_link.specs.Refusals.{IsLinkRefusal}
use Rattle.lp_link.specs.declared.fault.LinkRefusal.{LinkRefusal}
use Rattle.lp_lines.specs.Refusals.{TellsLimit}
use Rattle.lp_lines.specs.declared.refusal.Refusal.{Refusal}
use Rattle.lp_lines.specs.declared.refusal.Refusal.TheVariants as refusal
use Rattle.lp_files.specs.Made.{AreHeldObjects, IsHeldImage}
use Rattle.lp_files.specs.Ordered.{AreInOrder, IsDue, uses_of}
use Rattle.lp_files.specs.Said.{TellsMisnamed, TellsUnlinked}
use Rattle.lp_files.specs.Unopened.{IsUnopenedImage, IsUnopenedObject, object_file}

-- an object of this name, which one that was read uses, is not read: it is not opened, or the name is no text, which is said of the file of its user
pub data IsUnread (told : Option Held) (os : List Object) (name : List ℕ) (r : Refusal) : Type 0 where
  unopened : IsUnopenedObject told name r → IsUnread told os name r
  no_text : (k : ℕ) (user : Object) → slice_get os k ≡ Some user → Contains (uses_of user) name → (IsUtf8 name → ⊥) → TellsMisnamed (object_file user.name.items) r → IsUnread told os name r

-- a linked image is not written: more bytes spell it than a file may have
abbrev pub IsTooLong : PlainImage → Refusal → Type 0
IsTooLong image r = (MAX_IMAGE_BYTES < length (spelled_image image)) × TellsLimit limit.Image r

-- objects, of which the first is the root, have no image file: they are not linked, for the first reason, or their image is too long
pub data IsUnjoined (os : List Object) (r : Refusal) : Type 0 where
  unlinked : (e : LinkRefusal) → IsLinkRefusal os 0 e → TellsUnlinked os e r → IsUnjoined os r
  long_image : (image : Image) → IsLinked os 0 image → IsTooLong (plain_image image) r → IsUnjoined os r
  no_memory_to_link : r ≡ refusal.Memory → IsUnjoined os r

-- a module has no image file: behind the first of the objects in their order the next one is not read, or there are 256 already; or all are read, and they have none
pub data IsUnlinked (told : Option Held) (root : List ℕ) (r : Refusal) : Type 0 where
  of_object : (os : List Object) (next : List ℕ) → AreHeldObjects told os → IsDue root os next → length os < MAX_MODULES → IsUnread told os next r → IsUnlinked told root r
  of_number : (os : List Object) (next : List ℕ) → AreHeldObjects told os → IsDue root os next → MAX_MODULES ≤ length os → TellsLimit limit.Modules r → IsUnlinked told root r
  of_objects : (os : List Object) → AreHeldObjects told os → AreInOrder root os → IsUnjoined os r → IsUnlinked told root r
  no_memory : r ≡ refusal.Memory → IsUnlinked told root r

-- an image is not written in the version of today: it is not opened, or it is too long
pub data IsUnmigrated (told : Option Held) (name : List ℕ) (r : Refusal) : Type 0 where
  of_image : IsUnopenedImage told name r → IsUnmigrated told name r
  too_long : (image : PlainImage) → IsHeldImage told name image → IsTooLong image r → IsUnmigrated told name r
  no_memory_to_migrate : r ≡ refusal.Memory → IsUnmigrated told name r
