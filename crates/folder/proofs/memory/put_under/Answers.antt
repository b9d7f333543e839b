use Rattle.std.proofs.Common.{◌∙◌, ap, arith}
use Rattle.std.specs.Prelude.{slice_set}
use Rattle.folder.specs.Memory.{bytes_under, place_in}
use Rattle.folder.proofs.Files.{first_place, no_place, is_within, put_is}
use Rattle.folder.proofs.memory.put_under.Goals as goal

pub index_mut-file-requires : goal.index_mut-file-requires
index_mut-file-requires c =
    let within = (first_place c.as_slice.result.now c.args.name.now c.in-Some.place c.in-Some.ensures).1 in
    let long = c.as_slice.ensures.len in
    omega (arith, within, long)

pub returns-in-Some : goal.returns-in-Some
returns-in-Some c =
    let at = first_place c.args.files.now.items c.args.name.now c.in-Some.place
    (c.in-Some.ensures ∙ ap (λ files. place_in files c.args.name.now) c.as_slice.ensures.value) in
    ap (λ bytes. bytes_under (slice_set c.args.files.now.items c.in-Some.place (c.index_mut-file.result.now.0, bytes)))
    c.of.ensures
    ∙ put_is c.args.files.now.items c.args.name.now c.in-Some.place c.index_mut-file.result.now c.args.bytes.items
    at.0 at.1 c.index_mut-file.ensures.value

pub returns-in_default : goal.returns-in_default
returns-in_default c =
    absurd (is_within c.args.files.now.items c.args.name.now c.requires
    (no_place c.args.files.now.items c.args.name.now c.file_place.result
    (c.file_place.ensures ∙ ap (λ files. place_in files c.args.name.now) c.as_slice.ensures.value)
    c.in_default.not-Some))
