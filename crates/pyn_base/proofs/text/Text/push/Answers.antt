use Rattle.std.proofs.Common.{◌≡◌, [], ◌∷◌, ◌++◌, ◌∙◌, sym, ap, chars, string_bytes, append-nil, encode_utf8, ◌&&◌, true}
use lib.Utf8.{scalar}
use Rattle.std.proofs.lemmas.Str.{chars-append, chars-encodes, IsUtf8-string_bytes}
use Rattle.pyn_base.proofs.text.Text.push.Goals as goal

pub returns-clause-ok : goal.returns-clause-ok
returns-clause-ok c =
    let is_scalar : scalar c.args.c ≡ true = c.ranges.c.0 in
    let old = string_bytes c.self.inside.text in
    let one : chars (encode_utf8 c.args.c) ≡ c.args.c ∷ [] = ap chars (sym (append-nil (encode_utf8 c.args.c))) ∙ chars-encodes (c.args.c ∷ []) (ap (λ b. b && true) is_scalar) in
    ap chars c.in_ok-push.ensures.bytes ∙ (chars-append old (encode_utf8 c.args.c) (IsUtf8-string_bytes c.self.inside.text)
    ∙ (ap (λ xs. chars old ++ xs) one ∙ ap (λ xs. xs ++ c.args.c ∷ []) c.self.view_is))
