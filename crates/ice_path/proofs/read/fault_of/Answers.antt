use Rattle.std.proofs.Common.{sym, refl, ◌∙◌}
use Rattle.ice_path.proofs.Faults.{begins, fault_by_tests, one, two, three, four, five, six}
use Rattle.ice_path.proofs.read.fault_of.Goals as goal

pub look-seen-requires : goal.look-seen-requires
look-seen-requires c = begins c.args.text.now c.requires.slash

pub returns-then-seen : goal.returns-then-seen
returns-then-seen c =
    let seen = fault_by_tests c.args.text.now _ _ _ _ c.requires.slash c.requires.longer c.look-seen.ensures.empty refl c.look-seen.ensures.dots c.look-seen.ensures.long in
    sym (seen ∙ one _ _ _ _ _ c.if-seen.true)

pub returns-then-not-all_path_bytes : goal.returns-then-not-all_path_bytes
returns-then-not-all_path_bytes c =
    let seen = fault_by_tests c.args.text.now _ _ _ _ c.requires.slash c.requires.longer c.look-seen.ensures.empty c.all_path_bytes.ensures c.look-seen.ensures.dots c.look-seen.ensures.long in
    sym (seen ∙ two _ _ _ _ _ c.if-seen.false c.if-not-all_path_bytes.true)

pub returns-then-seen-2 : goal.returns-then-seen-2
returns-then-seen-2 c =
    let seen = fault_by_tests c.args.text.now _ _ _ _ c.requires.slash c.requires.longer c.look-seen.ensures.empty c.all_path_bytes.ensures c.look-seen.ensures.dots c.look-seen.ensures.long in
    sym (seen ∙ three _ _ _ _ _ c.if-seen.false c.if-not-all_path_bytes.false c.if-seen-2.true)

pub returns-then-seen-3 : goal.returns-then-seen-3
returns-then-seen-3 c =
    let seen = fault_by_tests c.args.text.now _ _ _ _ c.requires.slash c.requires.longer c.look-seen.ensures.empty c.all_path_bytes.ensures c.look-seen.ensures.dots c.look-seen.ensures.long in
    sym (seen ∙ four _ _ _ _ _ c.if-seen.false c.if-not-all_path_bytes.false c.if-seen-2.false c.if-seen-3.true)

pub returns-then-text-gt-TEXT_LIMIT : goal.returns-then-text-gt-TEXT_LIMIT
returns-then-text-gt-TEXT_LIMIT c =
    let seen = fault_by_tests c.args.text.now _ _ _ _ c.requires.slash c.requires.longer c.look-seen.ensures.empty c.all_path_bytes.ensures c.look-seen.ensures.dots c.look-seen.ensures.long in
    sym (seen ∙ five _ _ _ _ _ _ c.if-seen.false c.if-not-all_path_bytes.false c.if-seen-2.false c.if-seen-3.false c.if-text-gt-TEXT_LIMIT.true)

pub returns : goal.returns
returns c =
    let seen = fault_by_tests c.args.text.now _ _ _ _ c.requires.slash c.requires.longer c.look-seen.ensures.empty c.all_path_bytes.ensures c.look-seen.ensures.dots c.look-seen.ensures.long in
    sym (seen ∙ six _ _ _ _ _ _ c.if-seen.false c.if-not-all_path_bytes.false c.if-seen-2.false c.if-seen-3.false c.if-text-gt-TEXT_LIMIT.false)
