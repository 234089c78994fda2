-- The classes of a module by their names and methods, whatever their bases are.
use Rattle.std.proofs.Common.{◌≡◌, ℕ, ◌+◌, List, [], ◌∷◌, ◌++◌, length, map, sym, ap, ◌∙◌}
use Rattle.std.proofs.lemmas.List.{append_assoc, append-nil, map-append}
use Rattle.pyn_base.specs.declared.ids.FuncId.{FuncId}
use Rattle.py_syntax.specs.declared.module.Item.{Item}
use Rattle.py_syntax.specs.declared.module.Item.TheVariants as item
use Rattle.py_meaning.specs.Methods.{Names}
use Rattle.py_plain.specs.Program.{ClassInfo, classes_from, class_info, methods_from}

abbrev pub Head : Type 0
Head = List ℕ × Names FuncId

abbrev pub head : ClassInfo → Head
head c = (c.name, c.methods)

abbrev pub heads_from : ℕ → List Item → List Head
heads_from functions [] = []
heads_from functions (item.Func f ∷ items) = heads_from (functions + 1) items
heads_from functions (item.Class c ∷ items) = (c.name, methods_from functions c.members) ∷ heads_from (functions + length (methods_from 0 c.members)) items
heads_from functions (item.Import line names ∷ items) = heads_from functions items
heads_from functions (item.Other stmt ∷ items) = heads_from functions items

heads_after : (infos : List ClassInfo) (functions : ℕ) (items : List Item) → map head (classes_from infos functions items) ≡ map head infos ++ heads_from functions items
heads_after infos functions [] = sym (append-nil (map head infos))
heads_after infos functions (item.Func f ∷ items) = heads_after infos (functions + 1) items
heads_after infos functions (item.Class c ∷ items) =
    heads_after (infos ++ class_info infos functions c ∷ []) (functions + length (methods_from 0 c.members)) items
    ∙ ap (λ heads. heads ++ heads_from (functions + length (methods_from 0 c.members)) items) (map-append head infos (class_info infos functions c ∷ []))
    ∙ append_assoc (map head infos) ((c.name, methods_from functions c.members) ∷ []) (heads_from (functions + length (methods_from 0 c.members)) items)
heads_after infos functions (item.Import line names ∷ items) = heads_after infos functions items
heads_after infos functions (item.Other stmt ∷ items) = heads_after infos functions items

pub all_heads : (items : List Item) → map head (classes_from [] 0 items) ≡ heads_from 0 items
all_heads items = heads_after [] 0 items
