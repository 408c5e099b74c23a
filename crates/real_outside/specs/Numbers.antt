-- The numbers by which the system knows open files.
use Rattle.std.specs.Prelude.{pos, ◌≤ℤ◌}
use Rattle.std.specs.Fd.{file_raw_fd}
use Rattle.std.specs.declared.fs.File.{File}

-- none of 0, 1 and 2, which are those of standard input, output and errors
abbrev pub IsNoStream : File → Type 0
IsNoStream file = pos 3 ≤ℤ file_raw_fd file
