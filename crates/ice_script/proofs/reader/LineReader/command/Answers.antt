use Rattle.std.proofs.Common.{◌≡◌, ◌∙◌, sym, length, refl, ap, rules, arith}
use Rattle.std.proofs.lemmas.List.{take_at}
use Rattle.tree_spec.specs.Why.{Long}
use Rattle.tree_spec.specs.Lines.{Asks, asked}
use Rattle.ice_script.specs.Grammar.{line_of, words_of, tokens}
use Rattle.ice_script.specs.Reading.{refusal_in, parsed_asked}
use Rattle.ice_script.proofs.Bounds.{line_in_bounds}
use Rattle.ice_script.proofs.Kept.{line_of-kept, line_of-short}
use Rattle.ice_script.proofs.Refused.{refused_as}
use Rattle.ice_script.proofs.reader.LineReader.command.Goals as goal

pub returns-then-len-ge-LINE_KEPT-clause-refuses : goal.returns-then-len-ge-LINE_KEPT-clause-refuses
returns-then-len-ge-LINE_KEPT-clause-refuses c =
    let l : c.len.result ≡ length c.self.inside.line.items = search rules in
    (Long, line_of-kept c.args.self.now.text (omega (arith, ap length (ap (λ h. h.text) c.self.view_is))), refl)

pub returns-in-Ok-clause-bounds : goal.returns-in-Ok-clause-bounds
returns-in-Ok-clause-bounds c =
    let l : c.len.result ≡ length c.self.inside.line.items = search rules in
    let says : line_of c.args.self.now.text ≡ words_of (tokens c.self.inside.line.items) =
    line_of-short c.args.self.now.text c.self.inside.line.items c.len.result (ap (λ h. h.text) c.self.view_is) l c.if-len-ge-LINE_KEPT.false in
    let whole : length c.parse.new.buffer ≡ c.self.inside.bytes.len = search rules in
    let same : c.deref-in-Ok.result.now ≡ c.parse.new.buffer = c.deref-in-Ok.ensures.value ∙ take_at c.parse.new.buffer _ c.self.inside.bytes.len whole in
    line_in_bounds c.args.self.now.text (asked c.lend.result)
    (says ∙ ap (λ t. words_of (tokens t)) (sym c.deref.ensures.value) ∙ c.in-Ok.ensures.1
    ∙ ap Asks (ap (λ buffer. parsed_asked buffer c.in-Ok.parsed) (sym same) ∙ sym c.lend.ensures))

pub returns-in-Err-clause-refuses : goal.returns-in-Err-clause-refuses
returns-in-Err-clause-refuses c =
    let l : c.len.result ≡ length c.self.inside.line.items = search rules in
    let says : line_of c.args.self.now.text ≡ words_of (tokens c.self.inside.line.items) =
    line_of-short c.args.self.now.text c.self.inside.line.items c.len.result (ap (λ h. h.text) c.self.view_is) l c.if-len-ge-LINE_KEPT.false in
    refused_as (line_of c.args.self.now.text) c.in-Err.refusal
    (ap refusal_in says ∙ ap (λ t. refusal_in (words_of (tokens t))) (sym c.deref.ensures.value) ∙ c.in-Err.ensures)
