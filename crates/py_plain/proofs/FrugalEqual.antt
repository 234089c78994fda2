-- The operations of `Equal` gain no steps.
use Rattle.std.specs.Prelude.{ℕ, zero, suc, ◌+◌, Bool, ◌==◌, bytes_eq, List, [], ◌∷◌, length, Option, Some, None}
use Rattle.pyn_base.specs.declared.ids.ObjId.{ObjId}
use Rattle.py_meaning.specs.declared.object.Object.{Object}
use Rattle.py_meaning.specs.declared.object.Object.TheVariants as object
use Rattle.py_meaning.specs.declared.value.Value.{Value, Value-F, out-Value}
use Rattle.py_meaning.specs.Steps.{Costing, done, costs}
use Rattle.py_meaning.specs.Worlds.{World, Pairs, object_at}
use Rattle.py_meaning.specs.Keys.{key_cost, value_of_key}
use Rattle.py_meaning.specs.Equal.{equal_parts, equal_to_found, equal_pair, equal_pairs, of_one_length, equal_objects, equal_texts, equal_refs, equal_by, parts_within, equal_within, comparison_limit, equal, Parts}
use Rattle.py_plain.proofs.Like.{Frugal}
use Rattle.py_plain.proofs.Frugality.{frugal_done, frugal_leaves, frugal_costs, frugal_then, frugal_if}

-- parts that are compared without a gain
pub record FrugalParts (parts : Parts) : Type 0 where
  pub sequences_frugal : (xs ys : List Value) → Frugal (parts.sequences xs ys)
  pub dicts_frugal : (xs ys : Pairs) → Frugal (parts.dicts xs ys)

pub frugal_equal_parts : (x1 : (Value → Value → Costing Bool)) → ((y1 : Value) (y2 : Value) → Frugal (x1 y1 y2)) → (x2 : List Value) → (x3 : List Value) → Frugal (equal_parts x1 x2 x3)
frugal_equal_parts equal h1 (x ∷ xs) (y ∷ ys) = frugal_costs 1 _ (frugal_then _ _ (h1 x y) (λ same. frugal_if same _ _ (frugal_equal_parts equal (λ z1 z2. h1 z1 z2) xs ys) (frugal_done _)))
frugal_equal_parts equal h1 _ _ = frugal_done _

pub frugal_equal_to_found : (x1 : (Value → Value → Costing Bool)) → ((y1 : Value) (y2 : Value) → Frugal (x1 y1 y2)) → (x2 : Option Value) → (x3 : Value) → Frugal (equal_to_found x1 x2 x3)
frugal_equal_to_found equal h1 None y = frugal_done _
frugal_equal_to_found equal h1 (Some x) y = h1 x y

pub frugal_equal_pair : (x1 : (Value → Value → Costing Bool)) → ((y1 : Value) (y2 : Value) → Frugal (x1 y1 y2)) → (x2 : Pairs) → (x3 : Value × Value) → Frugal (equal_pair x1 x2 x3)
unfolding equal_pair
frugal_equal_pair equal h1 left pair = frugal_costs (1 + (key_cost pair.0)) _ (frugal_equal_to_found equal (λ z1 z2. h1 z1 z2) (value_of_key pair.0 left) pair.1)

pub frugal_equal_pairs : (x1 : (Value → Value → Costing Bool)) → ((y1 : Value) (y2 : Value) → Frugal (x1 y1 y2)) → (x2 : Pairs) → (x3 : Pairs) → Frugal (equal_pairs x1 x2 x3)
frugal_equal_pairs equal h1 left [] = frugal_done _
frugal_equal_pairs equal h1 left (pair ∷ pairs) = frugal_then _ _ (frugal_equal_pair equal (λ z1 z2. h1 z1 z2) left pair) (λ same. frugal_if same _ _ (frugal_equal_pairs equal (λ z3 z4. h1 z3 z4) left pairs) (frugal_done _))

pub frugal_of_one_length : {A : Type 0} → (x1 : (List A → List A → Costing Bool)) → ((y1 : List A) (y2 : List A) → Frugal (x1 y1 y2)) → (x2 : List A) → (x3 : List A) → Frugal (of_one_length x1 x2 x3)
frugal_of_one_length equal h1 xs ys = frugal_if ((length xs) == (length ys)) _ _ (h1 xs ys) (frugal_done _)

pub frugal_equal_objects : (x1 : Parts) → FrugalParts x1 → (x2 : Object) → (x3 : Object) → Frugal (equal_objects x1 x2 x3)
frugal_equal_objects parts h1 (object.List xs) (object.List ys) = frugal_of_one_length parts.sequences (λ z1 z2. h1.sequences_frugal z1 z2) xs ys
frugal_equal_objects parts h1 (object.Dict xs _) (object.Dict ys _) = frugal_of_one_length parts.dicts (λ z1 z2. h1.dicts_frugal z1 z2) xs ys
frugal_equal_objects parts h1 _ _ = frugal_done _

pub frugal_equal_texts : (x1 : List ℕ) → (x2 : List ℕ) → Frugal (equal_texts x1 x2)
frugal_equal_texts w0 w1 = frugal_of_one_length (λ s t. costs (length s) (done (bytes_eq s t))) (λ z1 z2. frugal_costs (length z1) _ (frugal_done _)) w0 w1

pub frugal_equal_refs : (x1 : World) → (x2 : Parts) → FrugalParts x2 → (x3 : ObjId) → (x4 : ObjId) → Frugal (equal_refs x1 x2 x3 x4)
frugal_equal_refs world parts h2 i j = frugal_if (i.0 == j.0) _ _ (frugal_done _) (frugal_equal_objects parts h2 (object_at world i) (object_at world j))

pub frugal_equal_by : (x1 : World) → (x2 : Parts) → FrugalParts x2 → (x3 : Value-F Value) → (x4 : Value-F Value) → Frugal (equal_by x1 x2 x3 x4)
frugal_equal_by world parts h2 (Value-F.Str s) (Value-F.Str t) = frugal_equal_texts s t
frugal_equal_by world parts h2 (Value-F.Tuple xs) (Value-F.Tuple ys) = frugal_of_one_length parts.sequences (λ z1 z2. h2.sequences_frugal z1 z2) xs.parts ys.parts
frugal_equal_by world parts h2 (Value-F.Ref i) (Value-F.Ref j) = frugal_equal_refs world parts h2 i j
frugal_equal_by world parts h2 (Value-F.View x) (Value-F.View y) = frugal_leaves _
frugal_equal_by world parts h2 a b = frugal_done _

pub frugal_parts_within : (levels : ℕ) (world : World) → FrugalParts (parts_within levels world)
frugal_parts_within zero world = record { sequences_frugal = λ xs ys. frugal_leaves _; dicts_frugal = λ xs ys. frugal_leaves _ }
frugal_parts_within (suc levels) world = record {
  sequences_frugal = frugal_equal_parts (λ a b. equal_by world (parts_within levels world) (out-Value a) (out-Value b)) (λ a b. frugal_equal_by world (parts_within levels world) (frugal_parts_within levels world) (out-Value a) (out-Value b));
  dicts_frugal = frugal_equal_pairs (λ a b. equal_by world (parts_within levels world) (out-Value a) (out-Value b)) (λ a b. frugal_equal_by world (parts_within levels world) (frugal_parts_within levels world) (out-Value a) (out-Value b));
}

pub frugal_equal_within : (levels : ℕ) (world : World) (a b : Value) → Frugal (equal_within levels world a b)
frugal_equal_within levels world a b = frugal_equal_by world (parts_within levels world) (frugal_parts_within levels world) (out-Value a) (out-Value b)

pub frugal_equal : (x1 : World) → (x2 : Value) → (x3 : Value) → Frugal (equal x1 x2 x3)
unfolding equal
frugal_equal world a b = frugal_equal_within comparison_limit world a b
