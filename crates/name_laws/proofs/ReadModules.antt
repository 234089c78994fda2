-- The names of every module that reading gives are identifiers.
use Rattle.std.proofs.Common.{List, [], map, true, ℕ, ◌+◌, ◌++◌, ◌∷◌, ◌≡◌}
use Rattle.std.proofs.lemmas.Bool.{and_parts}
use Rattle.std.specs.List.{AllByRecursion, list_all}
use Rattle.std.specs.Prelude.{Bool, Ok, length}
use Rattle.py_language.specs.Tokens.{tokens_of}
use Rattle.py_language.specs.TreesNumbers.{in_order}
use Rattle.py_language.specs.declared.token.Logical.{Logical}
use Rattle.py_syntax.specs.declared.module.Item.{Item}
use Rattle.py_syntax.specs.declared.module.Item.TheVariants as item
use Rattle.py_syntax.specs.declared.module.Member.{Member}
use Rattle.py_syntax.specs.declared.module.Member.TheVariants as member
use Rattle.py_syntax.specs.declared.module.Module.{Module}
use Rattle.py_grammar.specs.Blocks.{◌>>=◌}
use Rattle.py_grammar.specs.Modules.{unnumbered}
use Rattle.py_nodes.specs.Numbers.{class, func, item_numbered, member_numbered, numbered}
use Rattle.py_plain.specs.Program.{ClassInfo, Function, class_info, classes_from, functions_from, methods_from, methods_in}
use Rattle.py_spelling.specs.Spelling.{AllTokensAreSound, has_sound_tokens, is_sound}
use Rattle.name_laws.proofs.Headers.{IsIdentifier, SoundLine}
use Rattle.name_laws.proofs.Holds.{given, holds_bind, holds_of}
use Rattle.name_laws.proofs.Lists.{all_also, all_at, all_join}
use Rattle.name_laws.proofs.Modules.{ItemNamed, MemberNamed, ModuleNamed, unnumbered_named}
use Rattle.name_laws.specs.Laws.{NamesAreIdentifiers}

-- ---- the tokens of a text

all_true : {A : Type 0} (p : A → Bool) (xs : List A) → list_all p xs ≡ true → AllByRecursion (λ x. p x ≡ true) xs
all_true p [] e = tt
all_true p (x ∷ xs) e = let both = and_parts (p x) (list_all p xs) e in (both.0, all_true p xs both.1)

lines_sound : (ls : List Logical) → list_all has_sound_tokens ls ≡ true → AllByRecursion SoundLine ls
lines_sound ls e = all_also (λ l. has_sound_tokens l ≡ true) SoundLine (λ l h. all_true is_sound l.tokens h) ls (all_true has_sound_tokens ls e)

-- ---- numbering the nodes of a module changes no name

members_numbered : (members : List Member) (k : ℕ) → AllByRecursion MemberNamed members → AllByRecursion MemberNamed (in_order (map member_numbered members) k).0
members_numbered [] k h = tt
members_numbered (member.Func f ∷ members) k h = (h.0, members_numbered members (func f k).1 h.1)
members_numbered (member.Other s ∷ members) k h = (tt, members_numbered members k h.1)

items_numbered : (items : List Item) (k : ℕ) → AllByRecursion ItemNamed items → AllByRecursion ItemNamed (in_order (map item_numbered items) k).0
items_numbered [] k h = tt
items_numbered (item.Func f ∷ items) k h = (h.0, items_numbered items (func f k).1 h.1)
items_numbered (item.Class c ∷ items) k h = ((h.0.0, members_numbered c.members k h.0.1), items_numbered items (class c k).1 h.1)
items_numbered (item.Import line names ∷ items) k h = (tt, items_numbered items k h.1)
items_numbered (item.Other s ∷ items) k h = (tt, items_numbered items k h.1)

read_named : AllTokensAreSound → (text : List ℕ) (m : Module) → (unnumbered text >>= λ read. Ok (numbered read)) ≡ Ok m → ModuleNamed m
read_named sound text m e =
    let read = holds_bind ModuleNamed (unnumbered text) (λ read. Ok (numbered read)) (unnumbered_named text (lines_sound (tokens_of text).lines (sound text))) (λ read h. given (items_numbered read.items 0 h)) in
    holds_of ModuleNamed (unnumbered text >>= λ read. Ok (numbered read)) m read e

-- ---- functions and classes

abbrev pub FunctionNamed : Function → Type 0
FunctionNamed f = IsIdentifier f.tree.name

abbrev pub InfoNamed : ClassInfo → Type 0
InfoNamed c = IsIdentifier c.name

methods_named : (number : ℕ) (members : List Member) → AllByRecursion MemberNamed members → AllByRecursion FunctionNamed (methods_in number members)
methods_named number [] h = tt
methods_named number (member.Func f ∷ members) h = (h.0, methods_named number members h.1)
methods_named number (member.Other s ∷ members) h = methods_named number members h.1

functions_named : (classes : ℕ) (items : List Item) → AllByRecursion ItemNamed items → AllByRecursion FunctionNamed (functions_from classes items)
functions_named classes [] h = tt
functions_named classes (item.Func f ∷ items) h = (h.0, functions_named classes items h.1)
functions_named classes (item.Class c ∷ items) h =
    all_join FunctionNamed (methods_in classes c.members) (functions_from (classes + 1) items) (methods_named classes c.members h.0.1) (functions_named (classes + 1) items h.1)
functions_named classes (item.Import line names ∷ items) h = functions_named classes items h.1
functions_named classes (item.Other s ∷ items) h = functions_named classes items h.1

classes_named : (infos : List ClassInfo) (functions : ℕ) (items : List Item) → AllByRecursion InfoNamed infos → AllByRecursion ItemNamed items → AllByRecursion InfoNamed (classes_from infos functions items)
classes_named infos functions [] k h = k
classes_named infos functions (item.Func f ∷ items) k h = classes_named infos (functions + 1) items k h.1
classes_named infos functions (item.Class c ∷ items) k h =
    let info = class_info infos functions c in
    classes_named (infos ++ info ∷ []) (functions + length (methods_from 0 c.members)) items (all_join InfoNamed infos (info ∷ []) k (h.0.0, tt)) h.1
classes_named infos functions (item.Import line names ∷ items) k h = classes_named infos functions items k h.1
classes_named infos functions (item.Other s ∷ items) k h = classes_named infos functions items k h.1

-- that each token of a text is sound is a law of spelling
pub names_are_identifiers : AllTokensAreSound → NamesAreIdentifiers
names_are_identifiers sound text m e =
    let named = read_named sound text m e in
    record {
      functions = λ i f at. all_at FunctionNamed (functions_from 0 m.items) i f (functions_named 0 m.items named) at;
      classes = λ i c at. all_at InfoNamed (classes_from [] 0 m.items) i c (classes_named [] 0 m.items tt named) at;
    }
