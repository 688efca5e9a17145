-- The types of the parts of a fixed constant.
use Rattle.std.proofs.Common.{◌≡◌, ◌<◌, ◌∙◌, ap, sym, arith, length}
use Rattle.std.specs.Prelude.{List, Result, Ok, Err, IfOk}
use Rattle.lp_base.specs.declared.memory.Memory.{Memory}
use Rattle.lp_calculus.specs.Types.{arrow, instance}
use Rattle.lp_calculus.specs.Typing.{type_at}
use Rattle.lp_standard.specs.Schemes.{part_type, shape_type}
use Rattle.lp_standard.specs.declared.shape.Part.{Part}
use Rattle.lp_standard.specs.declared.shape.Shape.{Shape}
use Rattle.lp_standard.specs.declared.shape.Shape.TheVariants.{Function, Operation}
use Rattle.lp_term.specs.Nodes.{Nodes, Extends, type_tree}
use Rattle.lp_term.specs.declared.node.TypeId.{TypeId}
use Rattle.lp_term.proofs.Trees.{extends-trans}
use Rattle.lp_cert.specs.Facts.{AreInside}
use Rattle.lp_cert.specs.Same.{types_in}
use Rattle.lp_cert.proofs.Later.{inside_more}

-- from one part to another: a, b and c are the bank before, behind the second part, and at the end
pub function_later : (a b c : Nodes) (ids : List TypeId) (l r : Part) (to : TypeId) (o : Result TypeId Memory) (s : Shape) → s ≡ Function l r → Extends a b → Extends b c → (AreInside (length a.types) ids → to.0 < length b.types) →
    (AreInside (length a.types) ids → (d : Nodes) → Extends b d → type_tree d to.0 ≡ instance (type_at (types_in d ids)) (part_type r)) →
    IfOk o (λ made. AreInside (length b.types) ids → to.0 < length b.types → (d : Nodes) → Extends c d → type_tree d made.0 ≡ arrow (instance (type_at (types_in d ids)) (part_type l)) (type_tree d to.0)) →
    IfOk o (λ made. AreInside (length a.types) ids → (d : Nodes) → Extends c d → type_tree d made.0 ≡ instance (type_at (types_in d ids)) (shape_type s))
function_later a b c ids l r to (Err x) s e g h w k f = tt
function_later a b c ids l r to (Ok x) s e g h w k f = λ i d m.
    f (inside_more a b ids g i) (w i) d m ∙ (λ j. arrow (instance (type_at (types_in d ids)) (part_type l)) (k i d (extends-trans b c d h m) j)) ∙ ap (λ z. instance (type_at (types_in d ids)) (shape_type z)) (sym e)

pub operation_later : (a b c z : Nodes) (ids : List TypeId) (l r t : Part) (to rest : TypeId) (o : Result TypeId Memory) (s : Shape) → s ≡ Operation l r t → Extends a b → Extends b c → Extends c z → (AreInside (length a.types) ids → to.0 < length b.types) →
    (AreInside (length a.types) ids → (d : Nodes) → Extends b d → type_tree d to.0 ≡ instance (type_at (types_in d ids)) (part_type t)) → rest.0 < length c.types →
    (AreInside (length b.types) ids → to.0 < length b.types → (d : Nodes) → Extends c d → type_tree d rest.0 ≡ arrow (instance (type_at (types_in d ids)) (part_type r)) (type_tree d to.0)) →
    IfOk o (λ made. AreInside (length c.types) ids → rest.0 < length c.types → (d : Nodes) → Extends z d → type_tree d made.0 ≡ arrow (instance (type_at (types_in d ids)) (part_type l)) (type_tree d rest.0)) →
    IfOk o (λ made. AreInside (length a.types) ids → (d : Nodes) → Extends z d → type_tree d made.0 ≡ instance (type_at (types_in d ids)) (shape_type s))
operation_later a b c z ids l r t to rest (Err x) s e g h q w k u v f = tt
operation_later a b c z ids l r t to rest (Ok x) s e g h q w k u v f = λ i d m.
    let n = inside_more a b ids g i in
    let y = extends-trans c z d q m in
    f (inside_more b c ids h n) u d m ∙
    (λ j. arrow (instance (type_at (types_in d ids)) (part_type l)) (v n (w i) d y j)) ∙
    (λ j. arrow (instance (type_at (types_in d ids)) (part_type l)) (arrow (instance (type_at (types_in d ids)) (part_type r)) (k i d (extends-trans b c d h y) j))) ∙
    ap (λ z. instance (type_at (types_in d ids)) (shape_type z)) (sym e)

-- an arrow from a part: a, b and c are the bank before, behind the part, and at the end
pub arrow_later : (a b c : Nodes) (ids : List TypeId) (l : Part) (from to : TypeId) (o : Result TypeId Memory) → Extends a b → Extends b c → (AreInside (length a.types) ids → from.0 < length b.types) →
    (AreInside (length a.types) ids → (d : Nodes) → Extends b d → type_tree d from.0 ≡ instance (type_at (types_in d ids)) (part_type l)) →
    IfOk o (λ made. made.0 < length c.types) → IfOk o (λ made. type_tree c made.0 ≡ arrow (type_tree b from.0) (type_tree b to.0)) →
    IfOk o (λ made. AreInside (length a.types) ids → to.0 < length a.types → (d : Nodes) → Extends c d → type_tree d made.0 ≡ arrow (instance (type_at (types_in d ids)) (part_type l)) (type_tree d to.0))
arrow_later a b c ids l from to (Err x) g h w k i t = tt
arrow_later a b c ids l from to (Ok x) g h w k i t = λ s m d n.
    let long = extends-trans b c d h n in
    let more = g.more_types in
    n.same_types x.0 i ∙ t ∙ (λ j. arrow ((sym (long.same_types from.0 (w s)) ∙ k s d long) j) (sym (long.same_types to.0 (omega (arith, m, more))) j))
