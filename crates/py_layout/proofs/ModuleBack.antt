-- A module that was read is read back from its own lines.
use Rattle.std.proofs.Common.{◌≡◌, ◌∙◌, sym, ap, refl, subst, ℕ, true, false, ◌||◌, List, [], ◌∷◌, ◌++◌, append-nil, Option, Some, None, arith}
use Rattle.std.specs.Prelude.{if◌then◌else◌, map}
use Rattle.py_language.specs.declared.token.Token.{Token}
use Rattle.py_language.specs.TreesPlaces.{Conditional}
use Rattle.py_language.specs.Trees.{◌>>=◌, each, shape}
use Rattle.py_syntax.specs.declared.stmt.Annotation.{Annotation}
use Rattle.py_grammar.specs.declared.separator.Separator.TheVariants.{Comma}
use Rattle.py_grammar.specs.Separators.{opened, outside, marks, front, back, last_cut, split, trimmed, parts, some_parts, is_some, has, closed, inside}
use Rattle.py_grammar.specs.Statements as g
use Rattle.py_printing.specs.Expressions.{ShapesReadBack}
use Rattle.py_layout.specs.Quiet.{ExpressionsAreQuiet}
use Rattle.py_layout.specs.Starts.{ExpressionsBegin}
use Rattle.py_layout.specs.Small.{joined, ReadsBack}
use Rattle.py_syntax.specs.declared.module.Param.{Param}
use Rattle.py_syntax.specs.declared.stmt.Stmt.{Stmt}
use Rattle.py_grammar.specs.declared.form.Form.{Form}
use Rattle.py_grammar.specs.declared.form.Form.TheVariants.{Compound, Future, Typing}
use Rattle.py_grammar.specs.declared.form.Header.TheVariants as h
use Rattle.py_grammar.specs.Forms as f
use Rattle.py_layout.specs.Headers.{lone, header_tokens, fresh_param}
use Rattle.py_layout.proofs.Small.{split_joined}
use Rattle.py_language.specs.declared.token.Logical.{Logical}
use Rattle.py_grammar.specs.Refusals.{first_word, is_continuing}
use Rattle.py_printing.specs.Expressions.{TreesReadBack}
use Rattle.py_layout.specs.Erased.{erased}
use Rattle.std.specs.Prelude.{Result, Ok}
use Rattle.py_syntax.specs.declared.refusal.Refusal.{Refusal}
use Rattle.py_grammar.specs.declared.place.Place.{Place}
use Rattle.py_grammar.specs.declared.place.Place.TheVariants.{Block}
use Rattle.py_grammar.specs.Blocks as blocks
use Rattle.py_grammar.specs.Blocks.{Member, Group, Behind, behind, unless_deeper}
use Rattle.py_grammar.specs.Compounds as compounds
use Rattle.py_layout.proofs.Headers.{of_def, of_class}
use Rattle.std.specs.Prelude.{◌==◌}
use Rattle.py_grammar.specs.Refusals.{is_clause}
use Rattle.py_layout.proofs.BlockForms.{ok_bind, ok_is, Every, HasOne, KindRead, BlockRead}
use Rattle.std.proofs.Common.{◌≤◌, ◌+◌}
use Rattle.std.specs.List.{flat_map}
use Rattle.py_layout.specs.Blocks.{shown}
use Rattle.py_layout.specs.Rows.{Row, Rows, row, indent, headed, rows_of}
use Rattle.py_layout.proofs.Headers.{header_back}
use Rattle.py_layout.proofs.Members.{lines_of, MemberAt, members_of, GroupAt, GroupsAt, groups_back}
use Rattle.py_syntax.specs.declared.module.Class.{Class}
use Rattle.py_syntax.specs.declared.module.Func.{Func}
use Rattle.py_syntax.specs.declared.module.Item.{Item}
use Rattle.py_syntax.specs.declared.module.Item.TheVariants as item
use Rattle.py_syntax.specs.declared.module.Member.{Member as Method}
use Rattle.py_syntax.specs.declared.module.Member.TheVariants as member
use Rattle.py_syntax.specs.declared.module.Module.{Module}
use Rattle.py_grammar.specs.declared.place.Place.TheVariants as place
use Rattle.py_grammar.specs.Modules as modules
use Rattle.py_layout.specs.Modules.{import_tokens, func_rows, member_rows, class_rows, item_rows, erased_func, erased_member, erased_item, erased_module, ModulesReadBack}
use Rattle.py_layout.proofs.BlockBack.{stmt_back, block_back}
use Rattle.py_layout.proofs.OwnLines.{cons_is, split_rows, FromOn, from_append, from_less, deeper, lines_append, behind_none, same_number, form_as}
use Rattle.py_layout.proofs.Headers.{ReadParams}
use Rattle.std.specs.List.{flat_map}
use Rattle.std.proofs.Common.{◌≤◌, ◌+◌}
use Rattle.py_layout.specs.Blocks.{shown}
use Rattle.py_layout.specs.Rows.{Row, Rows, row, indent, headed, rows_of}
use Rattle.py_layout.proofs.Erasing.{maybe_again}
use Rattle.py_layout.proofs.Members.{lines_of, MemberAt, members_of, GroupAt, GroupsAt, groups_back}
use Rattle.py_layout.proofs.Headers.{header_back, each_name, names_whole}
use Rattle.py_layout.proofs.OwnLines.{is_plain_form}
use Rattle.py_layout.proofs.BlockBack.{headed_back, header_form_of, placed_is}
use Rattle.py_layout.proofs.ModuleReading.{FuncRead, MemberRead, ItemRead, items_read}

-- ---- lines that are read one statement after another

module _ {A : Type 0} (p : Place) (room : ℕ) (st : Behind → Group → Form → Result (List A) Refusal) (shape : ℕ → A → Rows) (E : A → A) (Q : A → Type 0) where
  column_back : (column : ℕ) (w : Group) (form : Form) (all : List A) → w.0.0.column ≡ column → f.form_of w.0.0 ≡ Some form → st None w form ≡ Ok all → blocks.in_column p room st column None w ≡ Ok all
  column_back column w form all at is e =
      ap (λ n. if n == column then blocks.formed p room st None w (f.form_of w.0.0) else Rattle.py_grammar.specs.Refusals.misplaced w.0.0) at
      ∙ ap (λ v. if v then blocks.formed p room st None w (f.form_of w.0.0) else Rattle.py_grammar.specs.Refusals.misplaced w.0.0) (same_number column)
      ∙ ap (blocks.formed p room st None w) is ∙ e

  pub record OneBack (column : ℕ) (ls : List Logical) (x : A) : Type 0 where
    pub group : Group
    pub lines : ls ≡ lines_of (group.0 ∷ group.1)
    pub at : GroupAt column group
    pub made : A
    pub read : blocks.in_column p room st column None group ≡ Ok (made ∷ [])
    pub same : E made ≡ E x
    pub from_on : FromOn column ls

  pub record AllBack (column : ℕ) (ls : List Logical) (all : List A) : Type 0 where
    pub groups : List Group
    pub lines : ls ≡ lines_of (members_of groups)
    pub at : GroupsAt column groups
    pub made : List A
    pub read : blocks.in_order p room st column None groups ≡ Ok made
    pub same : map E made ≡ map E all
    pub from_on : FromOn column ls
    pub one : HasOne all → HasOne groups

  module _ (one_back : (x : A) (column : ℕ) (ls : List Logical) → Q x → map shown ls ≡ shape column x → OneBack column ls x) where
    all_back : (all : List A) (column : ℕ) (ls : List Logical) → Every Q all → map shown ls ≡ flat_map (shape column) all → AllBack column ls all
    all_back [] column [] r e = record { groups = []; lines = refl; at = tt; made = []; read = refl; same = refl; from_on = tt; one = λ w. absurd (let wrong : [] ≡ w.0 ∷ w.1.0 = w.1.1 in cc) }
    all_back [] column (l ∷ ls) r e = absurd (cc)
    all_back (x ∷ xs) column ls r e =
        let cut = split_rows ls (shape column x) (flat_map (shape column) xs) e in
        let b = one_back x column cut.first r.0 cut.shows in
        let more = all_back xs column cut.rest r.1 cut.shows_rest in
        record {
          groups = b.group ∷ more.groups;
          lines = cut.whole ∙ ap (λ z. z ++ cut.rest) b.lines ∙ ap (λ z. lines_of (b.group.0 ∷ b.group.1) ++ z) more.lines ∙ sym (lines_append (b.group.0 ∷ b.group.1) (members_of more.groups));
          at = (b.at, more.at);
          made = b.made ∷ more.made;
          read =
              ap (λ n. blocks.◌>>=◌ (blocks.in_column p room st column n b.group) (λ first. blocks.◌>>=◌ (blocks.in_order p room st column None more.groups) (λ others. Ok (first ++ others)))) (behind_none more.groups)
              ∙ ap (λ r. blocks.◌>>=◌ r (λ first. blocks.◌>>=◌ (blocks.in_order p room st column None more.groups) (λ others. Ok (first ++ others)))) b.read
              ∙ ap (λ r. blocks.◌>>=◌ r (λ others. Ok (b.made ∷ others))) more.read;
          same = ap (λ z. z ∷ map E more.made) b.same ∙ ap (λ z. E x ∷ z) more.same;
          from_on = subst (FromOn column) (sym cut.whole) (from_append column cut.first cut.rest b.from_on more.from_on);
          one = λ w. (b.group, (more.groups, refl));
        }

    lines_at_back : (all : List A) (column : ℕ) (ls : List Logical) (b : AllBack column ls all) → blocks.lines_at p room st column None ls ≡ Ok b.made
    lines_at_back all column ls b =
        ap (λ z. blocks.in_order p room st column None (blocks.groups column z)) b.lines ∙ ap (blocks.in_order p room st column None) (groups_back column b.groups b.at) ∙ b.read

-- the first line
first_line : (column : ℕ) (groups : List Group) (ls : List Logical) → HasOne groups → ls ≡ lines_of (members_of groups) → GroupsAt column groups → HasOne ls × (blocks.column_of ls ≡ column)
first_line column groups ls one lines at =
    let first : ls ≡ one.0.0.0 ∷ (one.0.0.1 ++ lines_of (one.0.1 ++ members_of one.1.0)) = lines ∙ ap (λ z. lines_of (members_of z)) one.1.1 in
    let head : GroupAt column one.0 = (subst (GroupsAt column) one.1.1 at).0 in
    ((one.0.0.0, (one.0.0.1 ++ lines_of (one.0.1 ++ members_of one.1.0), first)), ap blocks.column_of first ∙ head.head.0)

from_here : (a b : ℕ) → b ≡ a → a ≤ b
from_here a b e = omega arith

module _ (quiet : ExpressionsAreQuiet) (begins : ExpressionsBegin) (own : ShapesReadBack) (trees : TreesReadBack) (annotated : Annotation → List Token) (reads : ReadsBack annotated) where
  -- a statement that may be in any block, where what is read is made of statements
  plain_back : {A : Type 0} (p : Place) (room : ℕ) (st : Behind → Group → Form → Result (List A) Refusal) (shape : ℕ → A → Rows) (E : A → A) (Q : A → Type 0) (make : Stmt → A)
      → ((w : Group) (form : Form) → is_plain_form form ≡ true → st None w form ≡ (blocks.◌>>=◌ (compounds.statement p room (compounds.statements room) None w form) (λ made. Ok (map make made))))
      → ((a b : Stmt) → erased a ≡ erased b → E (make a) ≡ E (make b))
      → (x : Stmt) (column : ℕ) (ls : List Logical) → KindRead (BlockRead room) x.kind → map shown ls ≡ rows_of annotated x column → OneBack p room st shape E Q column ls (make x)
  plain_back p room st shape E Q make plain again x column ls r e =
      let b = stmt_back quiet begins own trees annotated reads p room (compounds.statements room) (BlockRead room) (λ body q deep rest shows. block_back quiet begins own trees annotated reads room body q deep rest shows) x column ls r e in
      record {
        group = b.group;
        lines = b.lines;
        at = b.at;
        made = make b.made;
        read = column_back p room st shape E Q column b.group b.form (make b.made ∷ []) b.at.head.0 b.formed (plain b.group b.form b.plain ∙ ap (λ r. blocks.◌>>=◌ r (λ made. Ok (map make made))) b.read_form);
        same = again b.made x b.same;
        from_on = b.from_on;
      }

  -- ---- functions

  pub record FuncBack (p : Place) (room : ℕ) (column : ℕ) (ls : List Logical) (x : Func) : Type 0 where
    pub member : Member
    pub lines : ls ≡ lines_of (member ∷ [])
    pub at : MemberAt column member
    pub begins_none : is_continuing (first_word member.0.tokens) ≡ false
    pub name : List ℕ
    pub params : List Param
    pub returns : Option Annotation
    pub formed : f.form_of member.0 ≡ Some (Compound (h.Def name params returns) None)
    pub made : Func
    pub read : modules.function p room None (member, []) name params returns None ≡ Ok made
    pub same : erased_func made ≡ erased_func x
    pub from_on : FromOn column ls

  params_again : (before line : ℕ) (params : List Param) → ReadParams before params → map (fresh_param 0) (map (fresh_param line) params) ≡ map (fresh_param 0) params
  params_again before line [] r = refl
  params_again before line (x ∷ params) r =
      ap (λ z. let y : Param = record { name = x.name; annotation = x.annotation; default = z; line = 0 } in y ∷ map (fresh_param 0) (map (fresh_param line) params)) (maybe_again trees own before line Conditional x.default r.0.1)
      ∙ ap (λ z. fresh_param 0 x ∷ z) (params_again before line params r.1)

  func_back : (p : Place) (room : ℕ) (x : Func) (column : ℕ) (ls : List Logical) → FuncRead room x → map shown ls ≡ func_rows annotated column x → FuncBack p room column ls x
  func_back p room x column ls r e =
      let header = h.Def x.name x.params x.returns in
      let rows_as : func_rows annotated column x ≡ headed annotated column header (map (rows_of annotated) x.body) =
      ap (λ z. row column (header_tokens annotated header) ∷ z) (sym (placed_is quiet begins own trees annotated reads (column + indent) x.body))
      in
      let b = headed_back quiet begins own trees annotated reads p room (compounds.statements room) (BlockRead room) (λ body q deep rest shows. block_back quiet begins own trees annotated reads room body q deep rest shows) column header x.body ls r.1 (e ∙ rows_as) in
      let formed = header_form_of quiet begins own trees annotated reads p room (compounds.statements room) (BlockRead room) (λ body q deep rest shows. block_back quiet begins own trees annotated reads room body q deep rest shows) column header ls x.body r.0.0 b (of_def x.name x.params x.returns refl r.0.1.0 r.0.1.1) in
      let line = b.member.0.line in
      let made : Func = record { node = record { 0 = 0 }; name = x.name; line = line; params = map (fresh_param line) x.params; returns = x.returns; body = b.made } in
      record {
        member = b.member;
        lines = b.lines;
        at = b.at;
        begins_none = ap (λ z. is_continuing (first_word z)) b.tokens;
        name = x.name;
        params = map (fresh_param line) x.params;
        returns = x.returns;
        formed = formed;
        made = made;
        read = ap (λ r. blocks.◌>>=◌ r (λ body. Ok (let y : Func = record { node = record { 0 = 0 }; name = x.name; line = line; params = map (fresh_param line) x.params; returns = x.returns; body = body } in y))) b.read;
        same =
            ap (λ z. let y : Func = record { node = record { 0 = 0 }; name = x.name; line = 0; params = z; returns = x.returns; body = map erased b.made } in y) (params_again r.0.0 line x.params r.0.1.0)
            ∙ ap (λ z. let y : Func = record { node = record { 0 = 0 }; name = x.name; line = 0; params = map (fresh_param 0) x.params; returns = x.returns; body = z } in y) b.same;
        from_on = b.from_on;
      }

  -- ---- classes

  method_plain : (w : Group) (form : Form) → is_plain_form form ≡ true → modules.method None w form ≡ (blocks.◌>>=◌ (compounds.statement place.Class modules.deepest_in_class (compounds.statements modules.deepest_in_class) None w form) (λ made. Ok (map member.Other made)))
  unfolding modules.method
  method_plain w (Compound (h.Def n params returns) small) e = absurd (cc)
  method_plain w _ e = refl

  abbrev MethodBack : ℕ → List Logical → Method → Type 0
  MethodBack column ls x = OneBack place.Class modules.deepest_in_class modules.method (member_rows annotated) erased_member MemberRead column ls x

  method_back : (x : Method) (column : ℕ) (ls : List Logical) → MemberRead x → map shown ls ≡ member_rows annotated column x → MethodBack column ls x
  unfolding modules.method
  method_back (member.Func x) column ls r e =
      let b = func_back place.Class modules.deepest_in_class x column ls r e in
      record {
        group = (b.member, []);
        lines = b.lines;
        at = record { head = b.at; begins = b.begins_none; others = tt; continue = tt };
        made = member.Func b.made;
        read = column_back place.Class modules.deepest_in_class modules.method (member_rows annotated) erased_member MemberRead column (b.member, []) (Compound (h.Def b.name b.params b.returns) None) (member.Func b.made ∷ []) b.at.0 b.formed
            (ap (λ r. blocks.◌>>=◌ r (λ made. Ok (member.Func made ∷ []))) b.read);
        same = ap member.Func b.same;
        from_on = b.from_on;
      }
  method_back (member.Other x) column ls r e =
      plain_back place.Class modules.deepest_in_class modules.method (member_rows annotated) erased_member MemberRead member.Other method_plain (λ a b same. ap member.Other same) x column ls r e

  pub record ClassBack (column : ℕ) (ls : List Logical) (x : Class) : Type 0 where
    pub member : Member
    pub lines : ls ≡ lines_of (member ∷ [])
    pub at : MemberAt column member
    pub begins_none : is_continuing (first_word member.0.tokens) ≡ false
    pub formed : f.form_of member.0 ≡ Some (Compound (h.Class x.name x.base) None)
    pub made : Class
    pub read : modules.class_statement None (member, []) x.name x.base None ≡ Ok (item.Class made ∷ [])
    pub same : erased_item (item.Class made) ≡ erased_item (item.Class x)
    pub from_on : FromOn column ls

  methods_back : (members : List Method) (column : ℕ) (ls : List Logical) → HasOne members → Every MemberRead members → map shown ls ≡ flat_map (member_rows annotated column) members
      → (made : List Method) × ((modules.methods None ls ≡ Ok made) × ((map erased_member made ≡ map erased_member members) × (HasOne ls × FromOn column ls)))
  unfolding modules.methods
  methods_back members column ls one r e =
      let b = all_back place.Class modules.deepest_in_class modules.method (member_rows annotated) erased_member MemberRead method_back members column ls r e in
      let first = first_line column b.groups ls (b.one one) b.lines b.at in (
        b.made,
        (
          ap (λ n. blocks.lines_at place.Class modules.deepest_in_class modules.method n None ls) first.1
              ∙ lines_at_back place.Class modules.deepest_in_class modules.method (member_rows annotated) erased_member MemberRead method_back members column ls b,
          (b.same, (first.0, b.from_on)),
        ),
      )

  class_back : (x : Class) (column : ℕ) (ls : List Logical) → HasOne x.members → Every MemberRead x.members → map shown ls ≡ class_rows annotated column x → ClassBack column ls x
  class_back x column [] one r e = absurd (cc)
  class_back x column (l ∷ ds) one r e =
      let header = h.Class x.name x.base in
      let c = cons_is (shown l) (row column (header_tokens annotated header)) (map shown ds) (flat_map (member_rows annotated (column + indent)) x.members) e in
      let b = methods_back x.members (column + indent) ds one r c.1 in
      let at : l.column ≡ column = ap (λ (z : Row). z.column) c.0 in
      let tokens : l.tokens ≡ header_tokens annotated header = ap (λ (z : Row). z.tokens) c.0 in
      let w : Member = (l, ds) in
      let made : Class = record { name = x.name; base = x.base; line = l.line; members = b.0 } in
      record {
        member = w;
        lines = ap (λ z. l ∷ z) (sym (append-nil ds));
        at = (at, deeper column ds b.1.1.1.1);
        begins_none = ap (λ z. is_continuing (first_word z)) tokens;
        formed = form_as l (header_tokens annotated header) (Some (Compound header None)) tokens (header_back quiet begins own annotated reads 0 l.line header (of_class x.name x.base refl));
        made = made;
        read =
            ap (λ z. blocks.◌>>=◌ (compounds.deeper_block place.Module compounds.deepest modules.methods None l z) (λ found. Ok (let y : Item = item.Class (record { name = x.name; base = x.base; line = l.line; members = found }) in y ∷ []))) b.1.1.1.0.1.1
            ∙ ap (λ z. blocks.◌>>=◌ (modules.methods None z) (λ found. Ok (let y : Item = item.Class (record { name = x.name; base = x.base; line = l.line; members = found }) in y ∷ []))) (sym b.1.1.1.0.1.1)
            ∙ ap (λ r. blocks.◌>>=◌ r (λ found. Ok (let y : Item = item.Class (record { name = x.name; base = x.base; line = l.line; members = found }) in y ∷ []))) b.1.0;
        same = ap (λ z. let y : Item = item.Class (record { name = x.name; base = x.base; line = 0; members = z }) in y) b.1.1.0;
        from_on = (from_here column l.column at, from_less column ds b.1.1.1.1);
      }

  -- ---- import lines

  abbrev import_form : List (List ℕ) → Form
  import_form [] = Future
  import_form (n ∷ names) = Typing (n ∷ names)

  typing_back : (line : ℕ) (n : List ℕ) (names : List (List ℕ)) → Rattle.py_grammar.specs.Separators.all_parts Comma g.name (joined (map lone (n ∷ names))) ≡ Some (n ∷ names)
  typing_back line n names =
      ap (each g.name) (split_joined quiet begins own 0 line (lone n) (map lone names) (names_whole quiet begins own annotated reads 0 line Comma (n ∷ names)))
      ∙ each_name quiet begins own annotated reads 0 line (n ∷ names)

  imported_as : (n : List ℕ) (names : List (List ℕ)) → f.imported (joined (map lone (n ∷ names))) ≡ Rattle.py_grammar.specs.Separators.all_parts Comma g.name (joined (map lone (n ∷ names)))
  imported_as n [] = refl
  imported_as n (m ∷ names) = refl

  import_back : (line : ℕ) (names : List (List ℕ)) → f.form line (import_tokens names) ≡ Some (import_form names)
  import_back line [] = refl
  import_back line (n ∷ names) = ap (λ o. o >>= λ found. Some (Typing found)) (imported_as n names ∙ typing_back line n names)

  -- ---- items

  item_plain : (w : Group) (form : Form) → is_plain_form form ≡ true → modules.module_item None w form ≡ (blocks.◌>>=◌ (compounds.statement place.Module compounds.deepest (compounds.statements compounds.deepest) None w form) (λ made. Ok (map item.Other made)))
  unfolding modules.module_item
  item_plain w (Compound (h.Def n params returns) small) e = absurd (cc)
  item_plain w (Compound (h.Class n base) small) e = absurd (cc)
  item_plain w Future e = absurd (cc)
  item_plain w (Typing names) e = absurd (cc)
  item_plain w _ e = refl

  abbrev ItemBack : ℕ → List Logical → Item → Type 0
  ItemBack column ls x = OneBack place.Module compounds.deepest modules.module_item (item_rows annotated) erased_item ItemRead column ls x

  read_import : (w : Group) (names : List (List ℕ)) → w.0.1 ≡ [] → w.1 ≡ [] → modules.module_item None w (import_form names) ≡ Ok (item.Import w.0.0.line names ∷ [])
  unfolding modules.module_item
  read_import w [] ds ms = ap (λ z. unless_deeper z (compounds.unless_continued place.Module compounds.deepest w.1 (Ok (item.Import w.0.0.line [] ∷ [])))) ds ∙ ap (λ z. compounds.unless_continued place.Module compounds.deepest z (Ok (item.Import w.0.0.line [] ∷ []))) ms
  read_import w (n ∷ names) ds ms = ap (λ z. unless_deeper z (compounds.unless_continued place.Module compounds.deepest w.1 (Ok (item.Import w.0.0.line (n ∷ names) ∷ [])))) ds ∙ ap (λ z. compounds.unless_continued place.Module compounds.deepest z (Ok (item.Import w.0.0.line (n ∷ names) ∷ []))) ms

  no_word : (names : List (List ℕ)) → is_continuing (first_word (import_tokens names)) ≡ false
  no_word [] = refl
  no_word (n ∷ names) = refl

  item_back : (x : Item) (column : ℕ) (ls : List Logical) → ItemRead x → map shown ls ≡ item_rows annotated column x → ItemBack column ls x
  unfolding modules.module_item
  item_back (item.Func x) column ls r e =
      let b = func_back place.Module compounds.deepest x column ls r e in
      record {
        group = (b.member, []);
        lines = b.lines;
        at = record { head = b.at; begins = b.begins_none; others = tt; continue = tt };
        made = item.Func b.made;
        read = column_back place.Module compounds.deepest modules.module_item (item_rows annotated) erased_item ItemRead column (b.member, []) (Compound (h.Def b.name b.params b.returns) None) (item.Func b.made ∷ []) b.at.0 b.formed
            (ap (λ r. blocks.◌>>=◌ r (λ made. Ok (item.Func made ∷ []))) b.read);
        same = ap item.Func b.same;
        from_on = b.from_on;
      }
  item_back (item.Class x) column ls r e =
      let b = class_back x column ls r.0 r.1 e in
      record {
        group = (b.member, []);
        lines = b.lines;
        at = record { head = b.at; begins = b.begins_none; others = tt; continue = tt };
        made = item.Class b.made;
        read = column_back place.Module compounds.deepest modules.module_item (item_rows annotated) erased_item ItemRead column (b.member, []) (Compound (h.Class x.name x.base) None) (item.Class b.made ∷ []) b.at.0 b.formed b.read;
        same = b.same;
        from_on = b.from_on;
      }
  item_back (item.Import line names) column [] r e = absurd (cc)
  item_back (item.Import line names) column (l ∷ m ∷ ls) r e = absurd (let c = cons_is (shown l) (row column (import_tokens names)) (map shown (m ∷ ls)) [] e in let wrong : map shown (m ∷ ls) ≡ [] = c.1 in cc)
  item_back (item.Import line names) column (l ∷ []) r e =
      let c = cons_is (shown l) (row column (import_tokens names)) [] [] e in
      let at : l.column ≡ column = ap (λ (z : Row). z.column) c.0 in
      let tokens : l.tokens ≡ import_tokens names = ap (λ (z : Row). z.tokens) c.0 in
      let formed = form_as l (import_tokens names) (Some (import_form names)) tokens (import_back l.line names) in
      record {
        group = ((l, []), []);
        lines = refl;
        at = record { head = (at, tt); begins = ap (λ z. is_continuing (first_word z)) tokens ∙ no_word names; others = tt; continue = tt };
        made = item.Import l.line names;
        read = column_back place.Module compounds.deepest modules.module_item (item_rows annotated) erased_item ItemRead column ((l, []), []) (import_form names) (item.Import l.line names ∷ []) at formed (read_import ((l, []), []) names refl refl);
        same = refl;
        from_on = (from_here column l.column at, tt);
      }
  item_back (item.Other x) column ls r e =
      plain_back place.Module compounds.deepest modules.module_item (item_rows annotated) erased_item ItemRead item.Other item_plain (λ a b same. ap item.Other same) x column ls r e

  -- ---- the module

  future_same : (x : Item) → modules.is_future (erased_item x) ≡ modules.is_future x
  future_same (item.Func x) = refl
  future_same (item.Class x) = refl
  future_same (item.Import line []) = refl
  future_same (item.Import line (n ∷ names)) = refl
  future_same (item.Other x) = refl

  has_same : (items : List Item) → modules.has_future (map erased_item items) ≡ modules.has_future items
  has_same [] = refl
  has_same (x ∷ xs) = ap (λ v. v || modules.has_future (map erased_item xs)) (future_same x) ∙ ap (λ v. modules.is_future x || v) (has_same xs)

  module_back : (items : List Item) (ls : List Logical) → Every ItemRead items → map shown ls ≡ flat_map (item_rows annotated 0) items → (made : Module) × ((modules.read_lines None ls ≡ Ok made) × (erased_module made ≡ erased_module (modules.module_of items)))
  unfolding modules.module_items
  module_back items ls r e =
      let b = all_back place.Module compounds.deepest modules.module_item (item_rows annotated) erased_item ItemRead item_back items 0 ls r e in
      let future : modules.has_future b.made ≡ modules.has_future items = sym (has_same b.made) ∙ ap modules.has_future b.same ∙ has_same items in (
        modules.module_of b.made,
        (
          ap (λ r. blocks.◌>>=◌ r (modules.unless_fault None)) (lines_at_back place.Module compounds.deepest modules.module_item (item_rows annotated) erased_item ItemRead item_back items 0 ls b),
          ap (λ z. let y : Module = record { items = z; future = modules.has_future b.made; nodes = 0 } in y) b.same ∙ ap (λ v. let y : Module = record { items = map erased_item items; future = v; nodes = 0 } in y) future,
        ),
      )

read_module : (end : Behind) (items : List Item) (m : Module) → modules.unless_fault end items ≡ Ok m → modules.module_of items ≡ m
read_module None items m e = ok_is (modules.module_of items) m e
read_module (Some fault) items m e = absurd (cc)

pub modules_read_back : ExpressionsAreQuiet → ExpressionsBegin → ShapesReadBack → TreesReadBack → ModulesReadBack
modules_read_back quiet begins own trees annotated reads end lines m e ls shows =
    let b = ok_bind (modules.module_items end lines) (modules.unless_fault end) m e in
    let is = read_module end b.0 m b.1.1 in
    let made = module_back quiet begins own trees annotated reads b.0 ls (items_read end lines b.0 b.1.0) (shows ∙ ap (λ (z : Module). flat_map (item_rows annotated 0) z.items) (sym is)) in
    (made.0, (made.1.0, made.1.1 ∙ ap erased_module is))
