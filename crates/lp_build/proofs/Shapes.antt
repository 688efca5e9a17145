-- The shape of modules that texts mean: their own names come first, and the hidden ones stand behind these.
use Rattle.std.proofs.Common.{◌≡◌, [], ◌≤◌, ℕ, List, length, length-take, map, ap, refl, subst, take, arith}
use Rattle.std.specs.Prelude.{All, Some, slice_get}
use Rattle.std.proofs.lemmas.List.{length-map}
use Rattle.std.proofs.lemmas.Option.{get_or_from_slice_get, slice_get_within}
use Rattle.lp_lemmas.proofs.Elements.{All_empty, All_pushed}
use Rattle.lp_code.specs.declared.object.Object.{Object}
use Rattle.lp_syntax.specs.declared.text.ModuleText.{ModuleText}
use Rattle.lp_syntax.specs.declared.text.SignatureText.{SignatureText}
use Rattle.lp_sig.specs.Modules.{HasOwnFirst, IsApart}
use Rattle.lp_sig.specs.Rows.{fixity_row}
use Rattle.lp_sig.proofs.Apart.{names_apart}
use Rattle.lp_sig.proofs.OwnNames.{own_first}
use Rattle.lp_module.specs.declared.module.Module.{Module}
use Rattle.lp_build.specs.Compiled.{ArePaired, HasNamesOf}
use Rattle.lp_build.specs.Meant.{AreModulesAt, IsModuleAt, no_module, one_module}
use Rattle.lp_build.specs.declared.sources.File.{File}
use Rattle.lp_build.specs.declared.texts.Group.{Group}
use Rattle.lp_build.proofs.SameCopies.{IsShaped}
use Rattle.lp_build.proofs.Seen.{constant_seen, kind_seen}
use Rattle.lp_build.proofs.SeenEdges.{Finds}

front_fits : (n : ℕ) (xs ys : List (List ℕ)) → take n xs ≡ ys → length ys ≡ n → n ≤ length xs
front_fits n xs ys e l =
    let k = ap length e in
    let t = length-take n xs in
    omega (arith, k, t, l)

pub shape_of : {files : List File} {g : Group SignatureText} {t : Group ModuleText} (place : ℕ) (m : Module) (o : Object) → IsModuleAt files g t place m → HasNamesOf m o → IsShaped m o
shape_of {files} {g} {t} place m o is names =
    let apart : IsApart is.own =
    names_apart g.names.items g.sources.items g.texts.items is.own_is.is.place (map fixity_row is.own.fixities.items) is.own is.own_is.is.declared in
    let first : HasOwnFirst is.own m.signature = own_first is.own is.used is.source.items is.text.lines.items m.signature apart is.meaning.names in
    let k = front_fits (length is.own.kinds.items) (map (λ e. e.name.items) m.signature.kinds.items) (map (λ e. e.name.items) is.own.kinds.items)
    first.kinds (length-map is.own.kinds.items (λ e. e.name.items)) in
    let c = front_fits (length is.own.constants.items) (map (λ e. e.name.items) m.signature.constants.items) (map (λ e. e.name.items) is.own.constants.items) first.constants
    (length-map is.own.constants.items (λ e. e.name.items)) in
    let n = length-map m.signature.kinds.items (λ e. e.name.items) in
    let d = length-map m.signature.constants.items (λ e. e.name.items) in
    record {
      own = record { kinds = length is.own.kinds.items; constants = length is.own.constants.items };
      kinds_fit = omega (arith, k, n);
      constants_fit = omega (arith, c, d);
      hidden_kinds = is.meaning.hidden_kinds;
      hidden_constants = is.meaning.hidden_constants;
      names = names;
    }

shapes_of : {files : List File} {g : Group SignatureText} {t : Group ModuleText} {ps : List ℕ} {ms : List Module} → AreModulesAt files g t ps ms → All
    (λ m. (o : Object) → HasNamesOf m o → IsShaped m o) ms
shapes_of no_module = All_empty (λ (m : Module). (o : Object) → HasNamesOf m o → IsShaped m o) [] refl
shapes_of (one_module ps all_ps ms all_ms p m before is e f) =
    All_pushed (λ (m : Module). (o : Object) → HasNamesOf m o → IsShaped m o) all_ms ms m f (shapes_of before) (λ o names. shape_of p m o is names)

pub all_shaped : {files : List File} {g : Group SignatureText} {t : Group ModuleText} {ps : List ℕ} (ms : List Module) (os : List Object) →
    AreModulesAt files g t ps ms → ArePaired HasNamesOf ms (length ms) os → ArePaired IsShaped ms (length ms) os
all_shaped ms os are paired = record {
  many = paired.many;
  each = λ i m o a b. subst (λ (x : Module). (o : Object) → HasNamesOf x o → IsShaped x o) a.1 (shapes_of are i m a.0) o (paired.each i m o a b);
}

-- their names are found in them
finds_of : {files : List File} {g : Group SignatureText} {t : Group ModuleText} {ps : List ℕ} {ms : List Module} → AreModulesAt files g t ps ms → All Finds ms
finds_of no_module = All_empty Finds [] refl
finds_of (one_module ps all_ps ms all_ms p m before is e f) =
    let names = is.meaning.names in
    All_pushed Finds all_ms ms m f (finds_of before) (record {
      kinds = kind_seen is.own is.used is.source.items is.text.lines.items m names;
      constants = constant_seen is.own is.used is.source.items is.text.lines.items m names;
    })

pub all_find : {files : List File} {g : Group SignatureText} {t : Group ModuleText} {ps : List ℕ} {ms : List Module} → AreModulesAt files g t ps ms →
    (i : ℕ) (a : Module) → slice_get ms i ≡ Some a → Finds a
all_find {ms = ms} are i a at = subst Finds (get_or_from_slice_get ms i a a at) (finds_of are i a (slice_get_within ms i a at))
