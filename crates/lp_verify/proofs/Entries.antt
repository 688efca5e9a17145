-- The tables of an image or object, read off its parts.
use Rattle.std.proofs.Common.{◌≡◌, ◌∙◌, ℕ, List, map, ap, refl}
use Rattle.lp_lemmas.proofs.Lists.{map_composed}
use Rattle.lp_term.specs.Nodes.{Nodes}
use Rattle.lp_code.specs.declared.image.Image.{Image}
use Rattle.lp_code.specs.declared.image.ImageConstant.{ImageConstant}
use Rattle.lp_code.specs.declared.object.Object.{Object}
use Rattle.lp_code.specs.declared.object.ObjectConstant.{ObjectConstant}
use Rattle.lp_verify.specs.declared.tables.Scheme as told_scheme
use Rattle.lp_code.specs.Naming.{tables_of, scheme_in, image_arity, object_arity, image_tables, object_tables}
use Rattle.lp_verify.specs.Scheme.{schemes_in, image_scheme, object_scheme}

image_told : (b : Nodes) (cs : List ImageConstant) → schemes_in b (map image_scheme cs) ≡ map (λ (c : ImageConstant). scheme_in b c.type_vars c.scheme.0) cs
image_told b cs = map_composed image_scheme (λ (s : told_scheme.Scheme). scheme_in b s.type_vars s.body.0) (λ (c : ImageConstant). scheme_in b c.type_vars c.scheme.0) (λ c. refl) cs

pub image_joined : (i : Image) (ks : List ℕ) (ss : List told_scheme.Scheme) → ks ≡ map image_arity i.kinds.items → ss ≡ map image_scheme i.constants.items → tables_of ks (schemes_in i.bank ss) ≡ image_tables i
image_joined i ks ss e f = λ j. tables_of (e j) ((ap (schemes_in i.bank) f ∙ image_told i.bank i.constants.items) j)

object_told : (b : Nodes) (cs : List ObjectConstant) → schemes_in b (map object_scheme cs) ≡ map (λ (c : ObjectConstant). scheme_in b c.type_vars c.scheme.0) cs
object_told b cs = map_composed object_scheme (λ (s : told_scheme.Scheme). scheme_in b s.type_vars s.body.0) (λ (c : ObjectConstant). scheme_in b c.type_vars c.scheme.0) (λ c. refl) cs

pub object_joined : (o : Object) (ks : List ℕ) (ss : List told_scheme.Scheme) → ks ≡ map object_arity o.kinds.items → ss ≡ map object_scheme o.constants.items → tables_of ks (schemes_in o.bank ss) ≡ object_tables o
object_joined o ks ss e f = λ j. tables_of (e j) ((ap (schemes_in o.bank) f ∙ object_told o.bank o.constants.items) j)
