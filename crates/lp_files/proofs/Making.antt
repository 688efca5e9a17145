-- The bytes of the file that a command makes.
use Rattle.std.specs.Global.{Global}
use Rattle.std.proofs.Common.{◌≡◌, ◌++◌, ℕ, false, List, Option, refl, subst}
use Rattle.std.specs.Prelude.{Vec, Result, Ok, Err, IfOk, IfSome, codes}
use Rattle.lp_base.specs.Held.{Held, Puts}
use Rattle.lp_base.specs.declared.limit.Limit.{Limit}
use Rattle.lp_object.specs.Files.{spelled_image}
use Rattle.lp_object.specs.Plain.{PlainImage, plain_image}
use Rattle.lp_object.specs.Spellable.{SpellsImage}
use Rattle.lp_verify.specs.declared.judging.Verified.{Verified}
use Rattle.lp_build.specs.Ordered.{AreInOrder}
use Rattle.lp_build.specs.Reads.{AreRead}
use Rattle.lp_build.specs.Told.{AreLoaded, IsTold}
use Rattle.lp_build.specs.declared.sources.Sources.{Sources}
use Rattle.lp_lines.specs.Looked.{Found}
use Rattle.lp_lines.specs.declared.refusal.Refusal.{Refusal}
use Rattle.lp_lines.specs.declared.refusal.Refusal.TheVariants as refusal
use Rattle.lp_words.specs.declared.asked.FileCommand.{FileCommand}
use Rattle.lp_words.specs.declared.asked.FileCommand.TheVariants.{Compile, Link, Migrate}
use Rattle.lp_files.specs.Made.{IsHeldImage, IsMade, IsMigrated, IsObjectMade, SpellsCompiled, WritesMade}
use Rattle.lp_files.specs.Refused.{IsRefused}
use Rattle.lp_files.specs.Target.{ending_of}
use Rattle.lp_files.specs.Uncompiled.{no_space}
use Rattle.lp_files.specs.Unlinked.{no_memory, no_memory_to_migrate}

-- the bytes that stand under a name
pub found_there : (file : List ℕ) (most : ℕ) (l : Limit) (told : Option Held) (r : Result (Vec ℕ Global) Refusal) → Found file most l told r → IfOk r (λ bytes. IsTold told file bytes.items)
found_there file most l told (Ok bytes) h = h.1
found_there file most l told (Err e) h = tt

pub object_made : (told : Option Held) (name : List ℕ) (sources : Sources) (r : Result (Vec ℕ Global) Refusal) → AreInOrder false name sources → AreLoaded told sources → AreRead sources → IfOk r (λ bytes. SpellsCompiled sources name bytes.items)
    → IfOk r (λ bytes. IsObjectMade told name bytes.items)
object_made told name sources (Ok bytes) ordered files read h = record { sources = sources; ordered = ordered; files = files; read = read; spells = h }
object_made told name sources (Err e) ordered files read h = tt

pub migrated_is : (told : Option Held) (name : List ℕ) (image : PlainImage) (r : Result (Vec ℕ Global) Refusal) → IsHeldImage told name image
    → IfOk r (λ bytes. bytes.items ≡ spelled_image image) → IfOk r (λ bytes. IsMigrated told name bytes.items)
migrated_is told name image (Ok bytes) held h = (image, held, h)
migrated_is told name image (Err e) held h = tt

pub written_made : (told now : Option Held) (command : FileCommand) (name file bytes spelled : List ℕ) → IsMade told command name spelled → bytes ≡ spelled
    → file ≡ name ++ ending_of command → IfSome told (λ old. IfSome now (Puts file bytes old)) → WritesMade told now command name
written_made told now command name file bytes spelled made same f h = record {
  bytes = spelled;
  made = made;
  stands = subst (λ w. IfSome told (λ old. IfSome now (Puts w spelled old))) f (subst (λ w. IfSome told (λ old. IfSome now (Puts file w old))) same h);
}

pub image_held : (told : Option Held) (name file slice bytes : List ℕ) (r : Result Verified Refusal) → file ≡ name ++ codes ".lp" → slice ≡ bytes → IsTold told file bytes
    → IfOk r (λ v. SpellsImage (plain_image v.image) slice) → IfOk r (λ v. IsHeldImage told name (plain_image v.image))
image_held told name file slice bytes (Ok v) f s there h = record {
  bytes = bytes;
  there = subst (λ w. IsTold told w bytes) f there;
  spelled = subst (SpellsImage (plain_image v.image)) s h;
}
image_held told name file slice bytes (Err e) f s there h = tt

-- want of memory refuses each command
pub refused_for_memory : (told : Option Held) (command : FileCommand) (name : List ℕ) → IsRefused told command name refusal.Memory
refused_for_memory told Compile name = no_space refl
refused_for_memory told Link name = no_memory refl
refused_for_memory told Migrate name = no_memory_to_migrate refl
