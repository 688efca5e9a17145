-- The one spelling of an object, and that of an image in each version.
use Rattle.std.specs.Prelude.{ℕ, Bool, if◌then◌else◌, List, [], ◌∷◌, ◌++◌, length}
use Rattle.std.specs.List.{flat_map}
use Rattle.lp_object.specs.declared.width.Width.{Width}
use Rattle.lp_object.specs.declared.width.Width.TheVariants.{Two, Four}
use Rattle.lp_bytes.specs.Numbers.{spelled_two}
use Rattle.lp_object.specs.Numbers.{spelled_number, spelled_text}
use Rattle.lp_object.specs.Plain.{PlainObjectKind, PlainObjectConstant, PlainObject, PlainImageKind, PlainImageConstant, PlainImage}
use Rattle.lp_object.specs.Spelling.{spelled_type, spelled_fixity, spelled_records}
use Rattle.lp_object.specs.Tables.{spelled_tables}

-- 1 for what the module's signature declares, 2 for what is hidden
abbrev pub spelled_class : Bool → List ℕ
spelled_class exported = (if exported then 1 else 2) ∷ []

unfoldable pub spelled_object_kind : PlainObjectKind → List ℕ
spelled_object_kind k = spelled_class k.exported ++ spelled_text k.name ++ k.arity ∷ []

unfoldable pub spelled_object_constant : PlainObjectConstant → List ℕ
spelled_object_constant c = spelled_class c.exported ++ spelled_text c.name ++ c.type_vars ∷ spelled_type Two c.scheme ++ spelled_fixity c.fixity

unfoldable pub spelled_object_kinds : List PlainObjectKind → List ℕ
spelled_object_kinds ks = spelled_two (length ks) ++ flat_map spelled_object_kind ks

unfoldable pub spelled_object_constants : List PlainObjectConstant → List ℕ
spelled_object_constants cs = spelled_two (length cs) ++ flat_map spelled_object_constant cs

unfoldable pub spelled_uses : List (List ℕ) → List ℕ
spelled_uses us = spelled_two (length us) ++ flat_map spelled_text us

-- LPOB, version 1, the name, the kinds, the constants, the modules that are accumulated, the records
unfoldable pub spelled_object : PlainObject → List ℕ
spelled_object o =
    (76 ∷ 80 ∷ 79 ∷ 66 ∷ []) ++ spelled_two 1 ++ spelled_text o.name ++ spelled_object_kinds o.kinds ++ spelled_object_constants o.constants ++ spelled_uses o.uses ++ spelled_records Two o.records

unfoldable pub spelled_image_kind : PlainImageKind → List ℕ
spelled_image_kind k = spelled_text k.name ++ spelled_two k.hidden ++ k.arity ∷ []

unfoldable pub spelled_image_constant : Width → PlainImageConstant → List ℕ
spelled_image_constant w c = spelled_text c.name ++ spelled_two c.hidden ++ c.type_vars ∷ spelled_type w c.scheme ++ spelled_fixity c.fixity

unfoldable pub spelled_image_kinds : Width → List PlainImageKind → List ℕ
spelled_image_kinds w ks = spelled_number w (length ks) ++ flat_map spelled_image_kind ks

unfoldable pub spelled_image_constants : Width → List PlainImageConstant → List ℕ
spelled_image_constants w cs = spelled_number w (length cs) ++ flat_map (spelled_image_constant w) cs

-- the name, the kinds, the constants, the records
unfoldable pub spelled_parts : Width → PlainImage → List ℕ
spelled_parts w i = spelled_text i.name ++ spelled_image_kinds w i.kinds ++ spelled_image_constants w i.constants ++ spelled_records w i.records

-- LPIM, and the version
abbrev pub image_version : ℕ → List ℕ
image_version n = (76 ∷ 80 ∷ 73 ∷ 77 ∷ []) ++ spelled_two n

-- version 1 has numbers of two bytes and no tables
unfoldable pub spelled_image_1 : PlainImage → List ℕ
spelled_image_1 i = image_version 1 ++ spelled_parts Two i

-- version 2 has numbers of four bytes, and the tables
unfoldable pub spelled_image : PlainImage → List ℕ
spelled_image i = image_version 2 ++ spelled_parts Four i ++ spelled_tables i.records
