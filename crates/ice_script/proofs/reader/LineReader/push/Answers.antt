use Rattle.std.proofs.Common.{ap, rules, length, ◌≡◌, ◌≤◌}
use Rattle.ice_script.proofs.Kept.{full, more}
use Rattle.ice_script.proofs.reader.LineReader.push.Goals as goal

pub returns-then-len-lt-LINE_KEPT-clause-text : goal.returns-then-len-lt-LINE_KEPT-clause-text
returns-then-len-lt-LINE_KEPT-clause-text c =
    let l : c.len.result ≡ length c.self.inside.line.items = search rules in
    more _ c.self.inside.line.items _ c.args.byte c.len.result (ap (λ h. h.text) c.self.view_is) c.if-byte-eq10.false l c.if-len-lt-LINE_KEPT.true c.push_reserved.ensures.items

pub returns-else-len-lt-LINE_KEPT-clause-text : goal.returns-else-len-lt-LINE_KEPT-clause-text
returns-else-len-lt-LINE_KEPT-clause-text c =
    let l : c.len.result ≡ length c.self.inside.line.items = search rules in
    let most : length c.self.inside.line.items ≤ 40001 = search rules in
    full _ c.self.inside.line.items c.args.byte c.len.result (ap (λ h. h.text) c.self.view_is) c.if-byte-eq10.false l most c.if-len-lt-LINE_KEPT.false
